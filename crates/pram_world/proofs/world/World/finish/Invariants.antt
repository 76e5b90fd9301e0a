use Rattle.std.proofs.Common.{◌≡◌, ℕ, ◌-◌, ◌<◌, ◌≤◌, true}
use Rattle.walkx.specs.Bound.{own_step_bound}
use Rattle.pram_world.specs.Ends.{after_own_steps}
use Rattle.pram_world.specs.Worlds.{going}
use Rattle.pram_world.proofs.world.World.finish.Given as goal

abbrev pub invariant-loop-self : goal.invariant-loop-self
invariant-loop-self l = record {
  is : l.self ≡ after_own_steps l.initial.self l.b l.made;
  goes : (k : ℕ) → k < l.made → going (after_own_steps l.initial.self l.b k) l.b ≡ true;
  most : l.made ≤ own_step_bound l.initial.self.job;
}

abbrev pub decreases-loop-self : goal.decreases-loop-self
decreases-loop-self l = own_step_bound l.initial.self.job - l.made
