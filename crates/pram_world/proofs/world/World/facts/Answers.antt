use Rattle.pram_world.proofs.Interleaving.{interleaves}
use Rattle.pram_world.proofs.world.World.facts.Goals as goal

pub returns-clause-lawful : goal.returns-clause-lawful
returns-clause-lawful c = (c.invariant_holds.ensures.holds).stands

pub returns-clause-interleaved : goal.returns-clause-interleaved
returns-clause-interleaved c = (
  c.invariant_holds.ensures.made,
  interleaves _ c.invariant_holds.ensures.made c.invariant_holds.ensures.holds,
)
