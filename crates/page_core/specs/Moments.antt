-- What is told of the plain machine.
use Rattle.std.specs.Prelude.{◌≡◌, ◌⊎◌, ℕ, ◌<◌, ◌≤◌, List, length, take}
use Rattle.pram_job.specs.Job.{JobData}
use Rattle.pram_step.specs.declared.answer.RunAnswer.TheVariants as answer
use Rattle.pram_machine.specs.Machine.{place_count}
use Rattle.pram_step.specs.Runs.{IsReached, IsStateAfter, IsFirstConflict, IsAnswer}
use Rattle.page_core.specs.declared.finding.Finding.{Finding}
use Rattle.page_core.specs.declared.finding.Finding.TheVariants.{Done, Conflict, NoRoom}
use Rattle.page_core.specs.declared.finding.Finding.TheVariants.{NoStep, TooFar}
use Rattle.page_core.specs.declared.finding.Finding.TheVariants.{Refused}
use Rattle.page_core.specs.Texts.{OfJob, IsRefused}

-- ---- the answer of a text: the front of the buffer holds the cells

abbrev pub IsAnswerFound : List ℕ → ℕ → List ℕ → List ℕ → Finding → Type 0
IsAnswerFound text most old cells (Done step count) =
    OfJob text (λ job. (step ≡ job.steps) × (count ≡ job.cells)
    × IsAnswer job (answer.Final (take count cells)))
IsAnswerFound text most old cells (Conflict fault count) =
    OfJob text (λ job. (count ≡ 0) × IsAnswer job (answer.Conflict fault))
IsAnswerFound text most old cells (NoRoom needed) =
    OfJob text (λ job. (needed ≡ job.cells) × (length old < needed))
IsAnswerFound text most old cells TooFar =
    OfJob text (λ job. (most < job.steps) × IsReached job most)
IsAnswerFound text most old cells (Refused refusal) = IsRefused text refusal
IsAnswerFound text most old cells _ = ⊥

-- ---- the state after t steps: the front of the buffer holds the places

-- of a job that reaches it: it is told, or there is no room for it
abbrev pub IsStateTold : JobData → ℕ → List ℕ → List ℕ → Finding → Type 0
IsStateTold job t old places (Done step count) =
    (step ≡ t) × (t ≤ job.steps) × (count ≡ place_count job)
    × IsStateAfter job t (take count places)
IsStateTold job t old places (NoRoom needed) = (needed ≡ place_count job) × (length old < needed)
IsStateTold job t old places _ = ⊥

-- why no state after t steps of a text's job is told
abbrev pub IsNotReached : List ℕ → ℕ → ℕ → Finding → Type 0
IsNotReached text t most (Conflict fault count) =
    OfJob text (λ job. (count ≡ 0) × IsFirstConflict job fault × (fault.step ≤ t))
IsNotReached text t most NoStep = OfJob text (λ job. job.steps < t)
IsNotReached text t most TooFar = OfJob text (λ job. (most < t) × IsReached job most)
IsNotReached text t most (Refused refusal) = IsRefused text refusal
IsNotReached text t most _ = ⊥

abbrev pub IsStateFound : List ℕ → ℕ → ℕ → List ℕ → List ℕ → Finding → Type 0
IsStateFound text t most old places finding =
    OfJob text (λ job. IsStateTold job t old places finding) ⊎ IsNotReached text t most finding
