-- What comes of several steps.
use Rattle.std.specs.Prelude.{◌≡◌, ℕ, ◌+◌, ◌≤◌, List, take, vec_len}
use Rattle.pram_job.specs.Job.{JobData}
use Rattle.pram_machine.specs.Machine.{State}
use Rattle.pram_step.specs.declared.pass.Course.{Course}
use Rattle.pram_step.specs.declared.pass.Course.TheVariants.{Made, Settled, Disputed}
use Rattle.pram_step.specs.declared.pass.Room.{Room}
use Rattle.pram_step.specs.Inner.Marks.{HasRoom}
use Rattle.pram_step.specs.Running.{SameCounters}
use Rattle.pram_step.specs.Runs.{IsFirstConflict, IsStateAfter, state_after}

-- there is room for the processors that run, and for the stores of a step
pub record IsRoom (job : JobData) (room : Room) : Type 0 where
  pub running : vec_len room.running.processors ≡ job.procs
  pub stores : HasRoom job room.stores

-- the processors that are listed
abbrev pub listed_processors : Room → List ℕ
listed_processors room = take room.running.count room.running.processors.items

-- this state is that after t steps, and after all later ones where it has settled, or the first
-- conflict is among the t steps, and each processor stands where it goes in it
abbrev pub GoesTo : JobData → ℕ → State → Course → Type 0
GoesTo job t state Made = IsStateAfter job t state
GoesTo job t state Settled = (more : ℕ) → IsStateAfter job (t + more) state
GoesTo job t state (Disputed fault) = IsFirstConflict job fault × (fault.step ≤ t)
    × SameCounters job (state_after job fault.step) state

-- how many of t steps are begun
abbrev pub begun_on_course : ℕ → Course → ℕ
begun_on_course t Made = t
begun_on_course t Settled = t
begun_on_course t (Disputed fault) = fault.step
