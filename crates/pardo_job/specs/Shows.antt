-- What the machine's state shows of the program's.
use Rattle.std.specs.Prelude.{◌≡◌, ℕ, ◌+◌, ◌<◌}
use Rattle.std.specs.Prelude.{IsTrue, slice_index, is_some}
use Rattle.std.specs.Option.{is_none}
use Rattle.pram_job.specs.declared.instr.Array.{Array}
use Rattle.pram_job.specs.Job.{JobData}
use Rattle.pram_machine.specs.Machine.{State, register, counter, out_of_range}
use Rattle.pardo_program.specs.Operations.{bit}
use Rattle.pardo_program.specs.Program.{ProgramData}
use Rattle.pardo_flat.specs.Layouts.{program_layout, private_cells, loop_cells, mask_cells}
use Rattle.pardo_job.specs.Lines.{place_of}
use Rattle.pardo_job.specs.Meaning.{Source}

-- processor i is not gone
abbrev pub IsThere : ProgramData → Source → ℕ → Type 0
IsThere program source i = (i < program.procs) × IsTrue (is_none (source.gone i))

-- what processor i's cell of a row holds
abbrev pub own_cell : State → Array → ℕ → ℕ
own_cell state cells i = slice_index state (cells.base + i)

-- The shared cells and the private variables are those of the program. A processor that is not
-- gone has the values of loops and masks in its own cells, its own number in the last register,
-- and stands at the line that is next. One that is gone has named a place that there is not, or
-- divided by 0.
pub record Represents (program : ProgramData) (job : JobData) (source : Source) (state : State) :
    Type 0 where
  pub cells : (cell : ℕ) → cell < (program_layout program).shared →
      slice_index state cell ≡ source.cells cell
  pub privates : (x i : ℕ) → x < (program_layout program).privates → i < program.procs →
      own_cell state (private_cells (program_layout program) x) i ≡ source.privates x i
  pub loops : (nest i : ℕ) → nest < (program_layout program).loops → IsThere program source i →
      own_cell state (loop_cells (program_layout program) nest) i ≡ source.loops nest
  pub masks : (depth i : ℕ) → depth < (program_layout program).choices → IsThere program source i →
      own_cell state (mask_cells (program_layout program) (depth + 1)) i
      ≡ bit (source.masks (depth + 1) i)
  pub own : (i : ℕ) → IsThere program source i → register job state i 3 ≡ i
  pub stands : (i : ℕ) → IsThere program source i →
      counter job state i ≡ place_of program source.at
  pub gone : (i : ℕ) → i < program.procs → IsTrue (is_some (source.gone i)) →
      counter job state i ≡ out_of_range job
