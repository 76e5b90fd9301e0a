use Rattle.std.proofs.Common.{refl}
use Rattle.walkx.proofs.Workers.{known_new, comes_anew}
use Rattle.walkx.proofs.worker.Worker.back.Goals as goal

pub returns : goal.returns
returns c =
    rw (c.about_to.ensures, c.none.ensures) (record {
      value = refl;
      serves = λ job y worker. comes_anew job y c.args.w 0 worker;
      known = λ job y past _. (known_new job y past c.args.w 0).1;
    })
