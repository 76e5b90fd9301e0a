-- What a job is.
use Rattle.std.specs.Prelude.{◌≡◌, ℕ, ◌<◌, ◌≤◌, ◌^◌, List, length, All}
use Rattle.pram_job.specs.declared.instr.Instr.{Instr}
use Rattle.pram_job.specs.declared.instr.Rule.{Rule}
use Rattle.pram_job.specs.declared.limits.TheConstants.{MAX_CELLS, MAX_PROCS, MAX_CODE}
use Rattle.pram_job.specs.Instructions.{AreOperands, row_of}

-- M cells, N processors, T steps, a start value for each cell, and the code
pub record JobData : Type 0 where
  pub rule : Rule
  pub cells : ℕ
  pub procs : ℕ
  pub steps : ℕ
  pub init : List ℕ
  pub code : List Instr

abbrev pub job_data : Rule → ℕ → ℕ → ℕ → List ℕ → List Instr → JobData
job_data rule cells procs steps init code =
    record { rule = rule; cells = cells; procs = procs; steps = steps; init = init; code = code }

-- what a processor of so many cells and of a code of this length may do
abbrev pub IsInstr : ℕ → ℕ → Instr → Type 0
IsInstr cells len instr = AreOperands cells len (row_of instr).1

-- the limits of a job
pub record IsJob (job : JobData) : Type 0 where
  pub cells : (1 ≤ job.cells) × (job.cells ≤ MAX_CELLS)
  pub procs : (1 ≤ job.procs) × (job.procs ≤ MAX_PROCS)
  pub steps : job.steps < 2 ^ 32
  pub init_len : length job.init ≡ job.cells
  pub init_fits : All (λ value. value < 2 ^ 32) job.init
  pub code_len : (1 ≤ length job.code) × (length job.code ≤ MAX_CODE)
  pub code_fits : All (IsInstr job.cells (length job.code)) job.code
