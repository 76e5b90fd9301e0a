use Rattle.walkx.specs.Rests.{has_worked}
use Rattle.walkx.specs.Scripts.{ends}
use Rattle.walkx.proofs.Settling.{learned_goes}
use Rattle.walkx.proofs.Turning.{comes_to, moved, wide_does}
use Rattle.walkx.proofs.turns.part.Goals as goal

pub wide_task-requires-clause-next : goal.wide_task-requires-clause-next
wide_task-requires-clause-next g c =
    let at = c.args.post.now in
    let r = c.requires.here in
    rw c.leaf.ensures (record {
      from = r.from;
      after = ends (has_worked at c.args.memo.now);
      next = λ m. ends (has_worked at m);
      here = moved (g.S.Steps.stands at) r.from _ _ _
          (wide_does at c.args.memo.now (ends (has_worked at c.args.memo.now)) c.requires.wide)
          r.here;
    })

pub returns : goal.returns
returns g c =
    let at = c.args.post.now in
    rw c.settle.ensures (record {
      reaches = record {
        on = λ from here. comes_to (g.S.Steps.stands at) from _ _ _
            (learned_goes c.wide_task.result _ (ends (has_worked at c.args.memo.now)) _)
            (rw c.leaf.ensures at (c.wide_task.ensures.plays.on from
            (ends (has_worked at c.args.memo.now)) (λ m. ends (has_worked at m)))
            (moved (g.S.Steps.stands at) from _ _ _
            (wide_does at c.args.memo.now (ends (has_worked at c.args.memo.now)) c.requires.wide)
            here));
      };
    })
