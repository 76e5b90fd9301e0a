use Rattle.std.proofs.Common.{subst}
use Rattle.pram_world.specs.Inner.Holding.{Held}
use Rattle.pram_world.proofs.world.World.invariant_holds.Goals as goal

pub returns : goal.returns
returns c = subst Held c.self.view_is
    (record { made = c.self.invariant.made; holds = c.self.invariant.holds })
