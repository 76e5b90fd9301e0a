-- Processors that stand at one instruction, one after another in the list of those that run.
use Rattle.std.specs.Prelude.{◌≡◌, ℕ, ◌<◌, ◌≤◌, length, slice_index}
use Rattle.pram_machine.specs.Machine.{counter}
use Rattle.pram_step.specs.declared.walks.Sight.{Sight}
use Rattle.pram_cost.specs.declared.group.Group.{Group}

-- some that are listed from this place on, each of which stands at the instruction
pub record IsGroup (sight : Sight) (from : ℕ) (group : Group) : Type 0 where
  pub begins : group.from ≡ from
  pub some : from < group.end
  pub inside : group.end ≤ length sight.running.now
  pub stand : (k : ℕ) → from ≤ k → k < group.end →
      counter sight.job.now sight.state.now (slice_index sight.running.now k) ≡ group.index
