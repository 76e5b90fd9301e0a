-- The last step of a job that is told, and the rows of the states before it.
use Rattle.std.proofs.Common.{◌≡◌, ◌+◌, ◌<◌, ◌≤◌, ℕ, Option, Some, inl, inr, arith, ap, sym}
use Rattle.std.proofs.Common.{subst}
use Rattle.std.proofs.lemmas.Bool.{cases_lt}
use Rattle.pram_job.specs.Job.{JobData}
use Rattle.pram_machine.specs.Machine.{State}
use Rattle.pram_step.proofs.LawAnswer.{conflict_ends, one_answer}
use Rattle.pram_step.specs.Arrivals.{IsStepMade}
use Rattle.pram_step.specs.Runs.{IsAnswer, IsFirstConflict, IsReached, IsStateAfter}
use Rattle.pram_step.specs.declared.answer.Fault.{Fault}
use Rattle.pram_step.specs.declared.answer.RunAnswer.{RunAnswer}
use Rattle.pram_step.specs.declared.answer.RunAnswer.TheVariants.{Final, Conflict, Unfinished}
use Rattle.pram_rows.specs.Shown.{last_step}
use Rattle.pram_rows.specs.StepRows.{StepRows, step_rows}

-- steps that agree come before the last one, if the job has more
pub last-beyond : (job : JobData) (t : ℕ) (answer : RunAnswer) → IsReached job t → t < job.steps →
    IsAnswer job answer → t < last_step job answer
last-beyond job t (Final cells) reached more is = more
last-beyond job t (Conflict fault) reached more is = elim (cases_lt t fault.step) [
  | inl later ↦ later
  | inr within ↦ absurd (conflict_ends job fault t is.first within reached)
]
last-beyond job t (Unfinished step) reached more never = absurd never

-- or are some of those up to it
pub last-reached : (job : JobData) (t : ℕ) (answer : RunAnswer) → IsReached job t → t ≤ job.steps →
    IsAnswer job answer → t ≤ last_step job answer
last-reached job t (Final cells) reached some is = some
last-reached job t (Conflict fault) reached some is = elim (cases_lt t fault.step) [
  | inl later ↦ omega (arith, later)
  | inr within ↦ absurd (conflict_ends job fault t is.first within reached)
]
last-reached job t (Unfinished step) reached some never = absurd never

pub last-within : (job : JobData) (answer : RunAnswer) → IsAnswer job answer →
    last_step job answer ≤ job.steps
last-within job (Final cells) is = omega arith
last-within job (Conflict fault) is = is.within
last-within job (Unfinished step) never = absurd never

-- the step of a conflict is the last one
pub last-disputed : (job : JobData) (fault : Fault) (answer : RunAnswer) →
    IsFirstConflict job fault → fault.step ≤ job.steps → IsAnswer job answer →
    last_step job answer ≡ fault.step
last-disputed job fault answer first within is = ap (last_step job)
    (one_answer job answer (Conflict fault) is (record { first = first; within = within }))

-- a step that was not made is that of the first conflict
pub disputed : (job : JobData) (t : ℕ) (s : State) (made : Option Fault) (fault : Fault) →
    made ≡ Some fault → IsStepMade job t s made →
    IsFirstConflict job fault × (fault.step ≡ t + 1)
disputed job t s made fault is = subst (λ (o : Option Fault). IsStepMade job t s o →
    IsFirstConflict job fault × (fault.step ≡ t + 1)) (sym is) (λ step. step)

-- the rows of a step, by its state
pub rows-of : (rows : StepRows) (job : JobData) (t : ℕ) (s : State) →
    IsStateAfter job t s → rows.of_step job s (t + 1) ≡ step_rows rows job t
rows-of rows job t s after = ap (λ (state : State). rows.of_step job state (t + 1)) after.state
