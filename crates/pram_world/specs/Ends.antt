-- A body that is let go on until it is over.
use Rattle.std.specs.Prelude.{◌≡◌, ℕ, ◌<◌, ◌≤◌, zero, suc, true, slice_get, Option, Some, None}
use Rattle.walkx.specs.Bound.{own_step_bound}
use Rattle.walkx.specs.declared.operation.Ended.{Ended}
use Rattle.walkx.specs.Walk.{end_of}
use Rattle.pram_world.specs.declared.event.Event.TheVariants.{Go}
use Rattle.pram_world.specs.Worlds.{WorldData, Body, walks, stopped, going, happens}

-- how the body ended, if it is a worker that is over
abbrev pub end_by : Option Body → Option Ended
end_by None = None
end_by (Some (stopped worker)) = None
end_by (Some (walks walking)) = end_of walking.now

abbrev pub end_in : WorldData → ℕ → Option Ended
end_in world body = end_by (slice_get world.bodies body)

-- the world after so many steps of the body
abbrev pub after_own_steps : WorldData → ℕ → ℕ → WorldData
after_own_steps world body zero = world
after_own_steps world body (suc count) = happens (after_own_steps world body count) (Go body)

-- The body made atomic steps until it was over, each while it was going, and no more than the
-- own-step bound.
pub record Finished (world : WorldData) (body : ℕ) (now : WorldData) (ended : Ended) : Type 0 where
  pub steps : ℕ
  pub is : now ≡ after_own_steps world body steps
  pub going : (earlier : ℕ) → earlier < steps →
      going (after_own_steps world body earlier) body ≡ true
  pub over : end_in now body ≡ Some ended
  pub most : steps ≤ own_step_bound world.job

-- no body has the number, or it is stopped
abbrev pub IsLost : Option Body → Type 0
IsLost None = Unit {0}
IsLost (Some (stopped worker)) = Unit {0}
IsLost (Some (walks walking)) = ⊥

-- Nothing changed where the body is unknown or stopped, and otherwise it is over.
abbrev pub Finishes : WorldData → ℕ → WorldData → Option Ended → Type 0
Finishes world body now None = IsLost (slice_get world.bodies body) × (now ≡ world)
Finishes world body now (Some ended) = Finished world body now ended
