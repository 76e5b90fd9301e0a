-- What is told of what each processor executed last.
use Rattle.std.specs.Prelude.{◌≡◌, ℕ, ◌<◌, ◌≤◌, List, length}
use Rattle.pram_job.specs.Job.{JobData}
use Rattle.pram_step.specs.declared.last.LastRow.{LastRow}
use Rattle.pram_step.specs.Last.{AreLast}
use Rattle.pram_step.specs.Runs.{IsReached, IsFirstConflict}
use Rattle.page_core.specs.declared.finding.Finding.{Finding}
use Rattle.page_core.specs.declared.finding.Finding.TheVariants.{Done, Conflict, NoRoom}
use Rattle.page_core.specs.declared.finding.Finding.TheVariants.{NoStep, TooFar}
use Rattle.page_core.specs.declared.finding.Finding.TheVariants.{Refused}
use Rattle.page_core.specs.Texts.{OfJob, IsRefused}

-- of a job that has t steps: what each executed last in them, or in those up to the first conflict
abbrev pub AreLastAfter : JobData → ℕ → List LastRow → Finding → Type 0
AreLastAfter job t rows (Done step count) =
    (step ≡ t) × (t ≤ job.steps) × (count ≡ job.procs) × IsReached job t × AreLast job t rows
AreLastAfter job t rows (Conflict fault count) =
    IsFirstConflict job fault × (fault.step ≤ t) × (count ≡ job.procs)
    × AreLast job fault.step rows
AreLastAfter job t rows _ = ⊥

abbrev pub AreLastFound : List ℕ → ℕ → ℕ → List LastRow → List LastRow → Finding → Type 0
AreLastFound text t most old rows (Done step count) =
    OfJob text (λ job. AreLastAfter job t rows (Done step count))
AreLastFound text t most old rows (Conflict fault count) =
    OfJob text (λ job. AreLastAfter job t rows (Conflict fault count))
AreLastFound text t most old rows (NoRoom needed) =
    OfJob text (λ job. (needed ≡ job.procs) × (length old < needed))
AreLastFound text t most old rows NoStep = OfJob text (λ job. job.steps < t)
AreLastFound text t most old rows TooFar = most < t
AreLastFound text t most old rows (Refused refusal) = IsRefused text refusal
AreLastFound text t most old rows _ = ⊥
