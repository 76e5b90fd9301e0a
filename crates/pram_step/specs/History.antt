-- What the steps of a job write, and when. Step t + 1 is the step after t steps.
use Rattle.std.specs.Prelude.{ℕ, zero, suc, Option, Some, None}
use Rattle.pram_job.specs.Job.{JobData}
use Rattle.pram_machine.specs.Instructions.{part_of, request_in}
use Rattle.pram_step.specs.Steps.{Writes, Counts, first_written}
use Rattle.pram_step.specs.Runs.{state_after, requests_after}

-- in step t + 1 processor i writes the value to the place
abbrev pub Asks : JobData → ℕ → ℕ → ℕ → ℕ → Type 0
Asks job t place i value = Writes job (requests_after job t) place i value

-- and its write counts: with rule priority it is that of the least writer
abbrev pub Wins : JobData → ℕ → ℕ → ℕ → Type 0
Wins job t place i = Counts job.rule job (requests_after job t) place i

-- step t + 1 writes the place
pub record IsWritten (job : JobData) (t place : ℕ) : Type 0 where
  pub writer : ℕ
  pub value : ℕ
  pub asks : Asks job t place writer value

-- the last step up to t that writes the place, or 0
abbrev pub last_by : Option ℕ → ℕ → ℕ → ℕ
last_by None t before = before
last_by (Some value) t before = suc t

unfoldable pub last_write : JobData → ℕ → ℕ → ℕ
last_write job zero place = 0
last_write job (suc t) place =
    last_by (first_written job place 0 (requests_after job t)) t (last_write job t place)

-- the last step before step t that writes it, or 0
abbrev pub write_before : JobData → ℕ → ℕ → ℕ
write_before job zero place = 0
write_before job (suc t) place = last_write job t place

-- part j of processor i's request in step t + 1
abbrev pub part_after : JobData → ℕ → ℕ → ℕ → ℕ
part_after job t i j = part_of (request_in job (state_after job t) i) j
