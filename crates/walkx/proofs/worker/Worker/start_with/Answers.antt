use Rattle.std.proofs.Common.{List, [], None, length, refl, subst, sym}
use Rattle.walk_memory.specs.declared.memo.Memo.{Memo}
use Rattle.walkx.specs.declared.operation.Activity.TheVariants as activity
use Rattle.walkx.specs.Inner.Workers.{worker_data}
use Rattle.walkx.specs.Serving.{IsNewWorker}
use Rattle.walkx.specs.Walk.{started, remembering}
use Rattle.walkx.proofs.Workers.{known_new, starts}
use Rattle.walkx.proofs.worker.Worker.start_with.Goals as goal

pub returns : goal.returns
returns c =
    let w = c.args.w in
    let size = length c.args.memory in
    rw c.about_to.ensures (subst
    (λ (memory : List Memo). IsNewWorker w (remembering size (started w))
    (worker_data w None activity.Begin None [] memory)) (sym c.requires) (record {
      value = refl;
      serves = λ job y worker. starts job y w size worker;
      known = λ job y past _. (known_new job y past w size).0;
    }))
