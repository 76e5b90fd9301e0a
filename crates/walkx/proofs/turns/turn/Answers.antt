use Rattle.walkx.proofs.Turning.{task_next}
use Rattle.walkx.proofs.turns.turn.Goals as goal

pub whole-requires-clause-here : goal.whole-requires-clause-here
whole-requires-clause-here g c =
    let at = c.args.post.now in
    let r = c.requires.here in
    record {
      from = r.from;
      here = task_next (g.S.Steps.stands at) r.from _ at _ c.in-None.is
          (c.in_ok-turned.ensures.leads.on r.from r.here);
    }
