-- The state after t steps, the first conflict, and what a job ends with.
use Rattle.std.specs.Prelude.{◌≡◌, ℕ, zero, suc, ◌+◌, ◌<◌, ◌≤◌, List, take}
use Rattle.pram_job.specs.Job.{JobData}
use Rattle.pram_step.specs.declared.answer.Dispute.{Dispute}
use Rattle.pram_step.specs.declared.answer.Fault.{Fault}
use Rattle.pram_step.specs.declared.answer.RunAnswer.{RunAnswer}
use Rattle.pram_step.specs.declared.answer.RunAnswer.TheVariants as answer
use Rattle.pram_machine.specs.declared.requests.Request.{Request}
use Rattle.pram_step.specs.declared.run.Outcome.{Outcome}
use Rattle.pram_step.specs.declared.run.Outcome.TheVariants as outcome
use Rattle.pram_machine.specs.Machine.{State, start}
use Rattle.pram_machine.specs.Instructions.{requests_in}
use Rattle.pram_step.specs.Steps.{Agrees, IsDispute, next_state}

-- the state after t steps, as far as they agree
unfoldable pub state_after : JobData → ℕ → State
state_after job zero = start job
state_after job (suc t) = next_state job (state_after job t)

-- the requests of the step after t steps
abbrev pub requests_after : JobData → ℕ → List Request
requests_after job t = requests_in job (state_after job t)

-- that step agrees
abbrev pub AgreesAfter : JobData → ℕ → Type 0
AgreesAfter job t = Agrees job (requests_after job t)

-- there is a state after t steps: the steps up to t agree
abbrev pub IsReached : JobData → ℕ → Type 0
IsReached job t = (earlier : ℕ) → earlier < t → Agrees job (requests_after job earlier)

-- and it is this one
pub record IsStateAfter (job : JobData) (t : ℕ) (now : State) : Type 0 where
  pub reached : IsReached job t
  pub state : now ≡ state_after job t

-- the dispute of the step that a fault names
abbrev pub dispute_of : Fault → Dispute
dispute_of fault = record { cell = fault.cell; first = fault.first; second = fault.second }

-- the first step that doesn't agree, with its dispute
pub record IsFirstConflict (job : JobData) (fault : Fault) : Type 0 where
  pub before : ℕ
  pub step : fault.step ≡ before + 1
  pub reached : IsReached job before
  pub dispute : IsDispute job (requests_after job before)
      (record { cell = fault.cell; first = fault.first; second = fault.second })

-- and it is one of the job's steps
pub record IsFault (job : JobData) (fault : Fault) : Type 0 where
  pub first : IsFirstConflict job fault
  pub within : fault.step ≤ job.steps

-- the requests of the step that is named, which is the job's first conflict
pub record AreConflicting (job : JobData) (named : ℕ) (requests : List Request) : Type 0 where
  pub before : ℕ
  pub step : named ≡ before + 1
  pub within : named ≤ job.steps
  pub reached : IsReached job before
  pub against : AgreesAfter job before → ⊥
  pub are : requests ≡ requests_after job before

-- The state after the job's last step, or its first conflict.
abbrev pub IsOutcome : JobData → Outcome → Type 0
IsOutcome job (outcome.Final state) = IsStateAfter job job.steps state
IsOutcome job (outcome.Conflict step cell first second) =
    IsFault job (record { step = step; cell = cell; first = first; second = second })

-- The cells of the state after the job's last step, or the job's first conflict.
abbrev pub IsAnswer : JobData → RunAnswer → Type 0
IsAnswer job (answer.Final cells) = (state : State) × IsStateAfter job job.steps state
    × (cells ≡ take job.cells state)
IsAnswer job (answer.Conflict fault) = IsFault job fault
IsAnswer job (answer.Unfinished step) = ⊥
