-- The models of the PRAM, and which of them a run needs.
use Rattle.std.specs.Prelude.{ℕ, ◌<◌, ◌≤◌}
use Rattle.pram_job.specs.Job.{JobData}
use Rattle.pram_cost.specs.declared.meeting.Sharing.{Sharing}
use Rattle.pram_cost.specs.declared.meeting.Sharing.TheVariants.{SameRead, SameWrite, OtherValue}
use Rattle.pram_cost.specs.declared.pram.Pram.{Pram}
use Rattle.pram_cost.specs.declared.pram.Pram.TheVariants.{Erew, Crew, CommonCrcw, PriorityCrcw}
use Rattle.pram_machine.specs.Machine.{State}
use Rattle.pram_cost.specs.Meetings.{MeetIn}
use Rattle.pram_step.specs.Runs.{state_after}

-- the models from the weakest to the strongest
abbrev pub strength : Pram → ℕ
strength Erew = 0
strength Crew = 1
strength CommonCrcw = 2
strength PriorityCrcw = 3

-- the weakest model in which two may meet so
abbrev pub weakest_for : Sharing → Pram
weakest_for SameRead = Crew
weakest_for SameWrite = CommonCrcw
weakest_for OtherValue = PriorityCrcw

-- A model accepts the step after a state if no two meet in it as a stronger one alone allows.
abbrev pub Accepts : Pram → JobData → State → Type 0
Accepts pram job state =
    (sharing : Sharing) (cell i j : ℕ) → MeetIn sharing job state cell i j →
    strength (weakest_for sharing) ≤ strength pram

-- it accepts the first n steps
abbrev pub AcceptsSteps : Pram → JobData → ℕ → Type 0
AcceptsSteps pram job n = (t : ℕ) → t < n → Accepts pram job (state_after job t)

-- the weakest model that accepts the first n steps
pub record IsWeakestModel (job : JobData) (n : ℕ) (pram : Pram) : Type 0 where
  pub accepts : AcceptsSteps pram job n
  pub weakest : (other : Pram) → AcceptsSteps other job n → strength pram ≤ strength other
