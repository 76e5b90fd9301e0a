-- A processor's store.
use Rattle.std.specs.Prelude.{ℕ, nat_lt, if◌then◌else◌, Option, Some, None}
use Rattle.pram_job.specs.Job.{JobData}

-- the write to a cell
abbrev pub cell_write : JobData → Option (ℕ × ℕ) → Option (ℕ × ℕ)
cell_write job None = None
cell_write job (Some write) = if nat_lt write.0 job.cells then Some write else None
