use Rattle.std.proofs.Common.{sym, ◌∙◌}
use Rattle.walkx.specs.Inner.Posts.{then_marks}
use Rattle.walkx.proofs.Passing.{passed}
use Rattle.walkx.proofs.Settling.{settled_err, settled_ok}
use Rattle.walkx.proofs.Turning.{comes_to, compact_does, moved}
use Rattle.walk_memory.proofs.Posts.{phase_is}
use Rattle.walkx.proofs.turns.whole.Goals as goal

pub compact_task-requires-clause-due : goal.compact_task-requires-clause-due
compact_task-requires-clause-due g c =
    let at = c.args.post.now in
    let r = c.requires.here in
    rw c.leaf.ensures (record {
      from = r.from;
      after = then_marks at at.phase;
      here = moved (g.S.Steps.stands at) r.from _ _ _ (compact_does at c.requires.compact) r.here;
    })

pub returns-in_err-settle : goal.returns-in_err-settle
returns-in_err-settle g c =
    let at = c.args.post.now in
    rw (passed c.from_residual.result _ c.from_residual.ensures.1) (record {
      reaches = record {
        on = λ from here. comes_to (g.S.Steps.stands at) from _ _ _ (settled_err
            c.compact_task.result (then_marks at at.phase) _
            (sym c.settle.ensures ∙ c.in_err-settle.was))
            (rw c.leaf.ensures at (c.compact_task.ensures.ends.on from (then_marks at at.phase))
            (moved (g.S.Steps.stands at) from _ _ _ (compact_does at c.requires.compact) here));
      };
    })

pub raise-requires : goal.raise-requires
raise-requires g c =
    let at = c.args.post.now in
    let r = c.requires.here in
    rw (phase_is c.post.view_is) (record {
      here = record {
        from = r.from;
        here = comes_to (g.S.Steps.stands at) r.from _ _ _
            (settled_ok c.compact_task.result (then_marks at at.phase) _
            (sym c.settle.ensures ∙ c.in_ok-settle.was))
            (rw c.leaf.ensures at (c.compact_task.ensures.ends.on r.from (then_marks at at.phase))
            (moved (g.S.Steps.stands at) r.from _ _ _ (compact_does at c.requires.compact) r.here));
      };
    })

pub returns : goal.returns
returns g c =
    let at = c.args.post.now in
    record {
      reaches = record {
        on = λ from here. rw (phase_is c.post.view_is) at (c.raise.ensures.reaches.on from)
            (comes_to (g.S.Steps.stands at) from _ _ _
            (settled_ok c.compact_task.result (then_marks at at.phase) _
            (sym c.settle.ensures ∙ c.in_ok-settle.was))
            (rw c.leaf.ensures at (c.compact_task.ensures.ends.on from (then_marks at at.phase))
            (moved (g.S.Steps.stands at) from _ _ _ (compact_does at c.requires.compact) here)));
      };
    }
