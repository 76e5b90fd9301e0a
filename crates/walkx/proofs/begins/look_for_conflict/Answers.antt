use Rattle.std.proofs.Common.{sym}
use Rattle.walkx.proofs.Turning.{moved}
use Rattle.walkx.specs.Scripts.{ends}
use Rattle.walkx.specs.Walk.{begins}
use Rattle.walkx.specs.Rests.{after_conflict}
use Rattle.walkx.proofs.begins.look_for_conflict.Goals as goal

pub make-requires : goal.make-requires
make-requires g c =
    let at = c.args.post.now in
    let r = c.requires.here in
    rw c.conflict_look.ensures.value (
      at,
      record {
        from = r.from;
        after = ends (begins 0);
        next = after_conflict at c.args.root;
        here = r.here;
      },
    )

pub begun-requires-clause-conflict : goal.begun-requires-clause-conflict
begun-requires-clause-conflict g c =
    let at = c.args.post.now in
    let r = c.requires.here in
    rw c.conflict_look.ensures.value at (c.in_ok-conflict.ensures.admitted at) (record {
      from = r.from;
      after = ends (begins 0);
      next = after_conflict at c.args.root;
      here = r.here;
    })

pub returns : goal.returns
returns g c =
    let at = c.args.post.now in
    record {
      reaches = record {
        on = λ from here. moved (g.S.Steps.stands at) from _ _ _ (sym c.begun.ensures)
            (rw c.conflict_look.ensures.value at
            (c.in_ok-conflict.ensures.on at from (after_conflict at c.args.root)) here);
      };
    }
