use Rattle.walkx.proofs.Settling.{settled_goes}
use Rattle.walkx.proofs.Turning.{comes_to}
use Rattle.walkx.proofs.wide_store.report_store.Goals as goal

pub returns : goal.returns
returns g c = rw c.settle.ensures (λ last. record {
  on = λ from here. comes_to (g.S.Steps.stands c.args.leaf.now) from _ _ _
      (settled_goes c.finish_store.result last)
      (c.finish_store.ensures.ends.on from last here);
})
