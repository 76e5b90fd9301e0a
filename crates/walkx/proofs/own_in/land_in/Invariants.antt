use Rattle.walkx.specs.Places.{LandedTo}
use Rattle.walkx.proofs.own_in.land_in.Given as goal

abbrev pub invariant-loop-r : goal.invariant-loop-r
invariant-loop-r g l = LandedTo (g.S.Steps.stands l.fn.leaf) l.fn.leaf l.fn.steps l.fn.block
    l.fn.landing l.r l.steps l.block
