-- What each processor asks for in each step, as text.
use Rattle.std.specs.Prelude.{ℕ, ◌-◌, ◌==◌, ◌&&◌, nat_lt, if◌then◌else◌, List}
use Rattle.std.specs.Prelude.{[], ◌++◌, Option, Some, None, slice_get, slice_index}
use Rattle.std.specs.Prelude.{codes, decimal}
use Rattle.std.specs.List.{flat_map, range_with_len}
use Rattle.csv.specs.Writing.{default_writer, field_text}
use Rattle.pram_job.specs.declared.instr.Array.{Array}
use Rattle.pram_job.specs.declared.instr.Instr.{Instr}
use Rattle.pram_job.specs.Job.{JobData}
use Rattle.pram_machine.specs.Machine.{State, counter, halted, register_place}
use Rattle.pram_machine.specs.Instructions.{request_in}
use Rattle.pram_rows.specs.StepRows.{StepRows, window_rows}
use Rattle.pram_rows.specs.Instructions.{array_text, instruction_text}

-- What rows are told by: the lines that the job's instructions came from, where these are told; a
-- cell that is written to; and an array that an instruction names.
pub record RowWords : Type 0 where
  pub lines : Option (List ℕ)
  pub cell : ℕ → List ℕ
  pub array : Array → List ℕ

-- by numbers: `cell 12`, and `8..11`
abbrev pub by_numbers : Option (List ℕ) → RowWords
by_numbers told = record {
  lines = told;
  cell = λ cell. codes "cell " ++ decimal cell;
  array = array_text;
}

-- why a processor with this counter has stopped
abbrev pub stop_word : JobData → ℕ → List ℕ
stop_word job counter = if counter == halted job then codes "halted" else codes "out_of_range"

-- the instruction at a counter, or why there is none
abbrev pub instruction_or_stop : RowWords → JobData → ℕ → Option Instr → List ℕ
instruction_or_stop words job counter None = stop_word job counter
instruction_or_stop words job counter (Some instr) = instruction_text words.array instr

abbrev pub instruction_at : RowWords → JobData → ℕ → List ℕ
instruction_at words job counter =
    instruction_or_stop words job counter (slice_get job.code counter)

-- what data of processor i goes to: nothing, a cell, or one of its own registers
abbrev pub target_text : RowWords → JobData → ℕ → Option (ℕ × ℕ) → List ℕ
target_text words job i None = []
target_text words job i (Some write) =
    if nat_lt write.0 job.cells then words.cell write.0
    else codes "r" ++ decimal (write.0 - register_place job i 0)

-- the data, if there is any
abbrev pub value_text : Option (ℕ × ℕ) → List ℕ
value_text None = []
value_text (Some write) = decimal write.1

-- the line that the instruction at a counter came from; nothing where there is no instruction, or
-- it came from no line, which has the number 0
abbrev pub line_number_text : List ℕ → JobData → ℕ → List ℕ
line_number_text lines job counter =
    if nat_lt counter (halted job) && nat_lt 0 (slice_index lines counter)
    then decimal (slice_index lines counter) else []

-- what ends a row: its line, where the lines of the job's instructions are told
abbrev pub row_end : Option (List ℕ) → JobData → ℕ → List ℕ
row_end None job counter = codes "\n"
row_end (Some lines) job counter = codes "," ++ line_number_text lines job counter ++ codes "\n"

-- The row of processor i in this step, which is made in the state. An instruction and what is
-- written to stand as csv writes them: in quotes, where a name has a comma.
unfoldable pub row_line : RowWords → JobData → State → ℕ → ℕ → List ℕ
row_line words job state step i =
    decimal step ++ codes "," ++ decimal i ++ codes "," ++ decimal (counter job state i)
    ++ codes "," ++ field_text default_writer (instruction_at words job (counter job state i))
    ++ codes "," ++ field_text default_writer
    (target_text words job i (request_in job state i).put) ++ codes ","
    ++ value_text (request_in job state i).put ++ codes ","
    ++ decimal (request_in job state i).next ++ row_end words.lines job (counter job state i)

-- the rows of this step, one of each processor
abbrev pub rows_in : RowWords → JobData → State → ℕ → List ℕ
rows_in words job state step =
    flat_map (row_line words job state step) (range_with_len 0 job.procs)

abbrev pub header : Option (List ℕ) → List ℕ
header None = codes "step,processor,place,instruction,writes,value,next\n"
header (Some lines) = codes "step,processor,place,instruction,writes,value,next,line\n"

-- the rows that tell what is asked for
abbrev pub request_rows : RowWords → StepRows
request_rows words = record { header = header words.lines; of_step = rows_in words }

abbrev pub rows_text : RowWords → JobData → ℕ → ℕ → ℕ → List ℕ
rows_text words job from to last = window_rows (request_rows words) job from to last
