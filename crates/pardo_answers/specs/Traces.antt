-- The run of a program line by line, told by the steps of its job: a record where a line begins,
-- and one for each place that is written.
use Rattle.std.specs.Prelude.{ℕ, ◌+◌, ◌-◌, ◌*◌, ◌/◌, Bool, true, false, not, ◌&&◌, ◌||◌, ◌==◌}
use Rattle.std.specs.Prelude.{nat_le, nat_lt, if◌then◌else◌, count_by, length, List, [], ◌∷◌, ◌++◌}
use Rattle.std.specs.Prelude.{slice_get, slice_index, Option, None, Some, codes, decimal}
use Rattle.std.specs.List.{flat_map, range_with_len}
use Rattle.pram_job.specs.Job.{JobData}
use Rattle.pram_machine.specs.Instructions.{request_in}
use Rattle.pram_machine.specs.Machine.{State, counter, halted, out_of_range}
use Rattle.pram_rows.specs.StepRows.{StepRows}
use Rattle.pardo_program.specs.Program.{ArrayData, PrivateData, ProgramData}
use Rattle.pardo_program.specs.declared.statement.Line.{Line}
use Rattle.pardo_program.specs.declared.statement.Statement.{Statement}
use Rattle.pardo_program.specs.declared.statement.Statement.TheVariants.{EndIf, While, EndWhile}
use Rattle.pardo_program.specs.declared.statement.Statement.TheVariants.{For, EndFor}
use Rattle.pardo_job.specs.Meaning.{first_below}
use Rattle.pardo_job.specs.Printed.{has_cell}
use Rattle.pardo_answers.specs.Records.{place_record}

-- ---- where a line begins

-- the `end` of an `if` has no code
abbrev pub takes_steps : Statement → Bool
takes_steps EndIf = false
takes_steps _ = true

abbrev pub made_in_steps : Option Line → Option Line
made_in_steps None = None
made_in_steps (Some line) = if takes_steps line.statement then Some line else None

-- how many lines of code there are before the last one that begins at an instruction or before it
abbrev pub lines_before : List ℕ → ℕ → ℕ
lines_before places at = count_by (λ place. nat_le place at) places - 1

-- the line whose code begins at an instruction; the code of each line begins at its place
abbrev pub line_begun : ProgramData → List ℕ → ℕ → Option Line
line_begun program places at =
    if slice_index places (lines_before places at) == at
    then made_in_steps (slice_get program.lines (lines_before places at)) else None

-- where a processor stands, if it runs
abbrev pub running_counter : JobData → State → ℕ → Option ℕ
running_counter job state i =
    if nat_lt (counter job state i) (halted job) then Some (counter job state i) else None

-- and the first that runs
abbrev pub first_standing : JobData → State → Option ℕ
first_standing job state = first_below job.procs (running_counter job state)

-- ---- who takes part in it

-- the lines of loops are made by all, the others by those in the mask of their depth
abbrev pub mask_depth : Statement → ℕ → ℕ
mask_depth (While tree end) depth = 0
mask_depth (EndWhile begin) depth = 0
mask_depth (For nest first last up end) depth = 0
mask_depth (EndFor begin) depth = 0
mask_depth _ depth = depth

-- Processor i's cell in the mask of a depth from 1 on: the masks are the last cells of the job.
abbrev pub mask_cell : ProgramData → JobData → ℕ → ℕ → ℕ
mask_cell program job depth i = job.cells - (program.choices - (depth - 1)) * job.procs + i

abbrev pub takes_part : ProgramData → JobData → State → ℕ → ℕ → Bool
takes_part program job state depth i = nat_lt (counter job state i) (halted job)
    && ((depth == 0) || not (slice_index state (mask_cell program job depth i) == 0))

abbrev pub count_active : ProgramData → JobData → State → ℕ → ℕ
count_active program job state depth =
    count_by (takes_part program job state depth) (range_with_len 0 job.procs)

-- `5,12,8,,,`: in this step a line begins, and so many take part
abbrev pub begun_row : ℕ → ℕ → ℕ → List ℕ
begun_row step number active = decimal step ++ codes "," ++ decimal number ++ codes ","
    ++ decimal active ++ codes ",,,\n"

abbrev pub heading_of : ProgramData → JobData → State → ℕ → Option Line → List ℕ
heading_of program job state step None = []
heading_of program job state step (Some line) = begun_row step line.number
    (count_active program job state (mask_depth line.statement line.depth))

abbrev pub line_standing : ProgramData → List ℕ → Option ℕ → Option Line
line_standing program places None = None
line_standing program places (Some at) = line_begun program places at

abbrev pub heading : ProgramData → List ℕ → JobData → State → ℕ → List ℕ
heading program places job state step = heading_of program job state step
    (line_standing program places (first_standing job state))

-- ---- what is written

-- the array that has a cell
abbrev pub array_with : List ArrayData → ℕ → Option ArrayData
array_with [] cell = None
array_with (array ∷ arrays) cell =
    if has_cell array cell then Some array else array_with arrays cell

-- how far a cell stands behind the last array
abbrev pub behind : Option ArrayData → ℕ → ℕ
behind None cell = cell
behind (Some array) cell = cell - array.base - length array.start

-- the private variable in whose row a cell stands, which has one for each processor
abbrev pub private_with : ProgramData → ℕ → ℕ → Option PrivateData
private_with program procs cell = slice_get program.privates
    (behind (slice_get program.arrays (length program.arrays - 1)) cell / procs)

-- `9,12,,`: the step, and the line of the instruction
abbrev pub row_head : ℕ → ℕ → List ℕ
row_head step line = decimal step ++ codes "," ++ decimal line ++ codes ",,"

-- `x,5,7`: a private variable of processor i
abbrev pub private_row : List ℕ → ℕ → ℕ → Option PrivateData → List ℕ
private_row head i value None = []
private_row head i value (Some variable) = head ++ variable.name ++ codes "," ++ decimal i
    ++ codes "," ++ decimal value ++ codes "\n"

-- `A,3,7`: a place of an array
abbrev pub place_row : List ℕ → ℕ → ℕ → Option ArrayData → List ℕ → List ℕ
place_row head cell value None other = other
place_row head cell value (Some array) other = head ++ place_record array (cell - array.base) value

-- what processor i puts to a place of the program
abbrev pub put_row : ProgramData → ℕ → List ℕ → ℕ → Option (ℕ × ℕ) → List ℕ
put_row program procs head i None = []
put_row program procs head i (Some put) =
    place_row head put.0 put.1 (array_with program.arrays put.0)
    (private_row head i put.1 (private_with program procs put.0))

-- `7,12,,gone processor,3,`: it comes to be gone
abbrev pub gone_row : List ℕ → ℕ → Bool → List ℕ
gone_row head i false = []
gone_row head i true = head ++ codes "gone processor," ++ decimal i ++ codes ",\n"

abbrev pub goes_in_line : JobData → State → ℕ → Bool
goes_in_line job state i = nat_lt (counter job state i) (halted job)
    && ((request_in job state i).next == out_of_range job)

abbrev pub processor_rows : ProgramData → List ℕ → JobData → State → ℕ → ℕ → List ℕ
processor_rows program numbers job state step i =
    let head = row_head step (slice_index numbers (counter job state i)) in
    put_row program job.procs head i (request_in job state i).put
    ++ gone_row head i (goes_in_line job state i)

-- ---- all of it

-- Where a line begins its record, and then what each processor writes. The numbers are those of the
-- lines that the instructions of the job came from.
abbrev pub line_rows : ProgramData → List ℕ → List ℕ → JobData → State → ℕ → List ℕ
line_rows program places numbers job state step = heading program places job state step
    ++ flat_map (processor_rows program numbers job state step) (range_with_len 0 job.procs)

abbrev pub trace_header : List ℕ
trace_header = codes "step,line,active,name,index,value\n"

abbrev pub trace_rows : ProgramData → List ℕ → List ℕ → StepRows
trace_rows program places numbers = record {
  header = trace_header;
  of_step = line_rows program places numbers;
}
