-- The code of lines, and of a program. After each line all processors that are not gone stand at
-- one place: at the code of the line that is next.
use Rattle.std.specs.Prelude.{ℕ, zero, suc, ◌+◌, ◌*◌, Bool}
use Rattle.std.specs.Prelude.{◌==◌, if◌then◌else◌, List, [], ◌∷◌, ◌++◌}
use Rattle.std.specs.Prelude.{length, take, sum_by}
use Rattle.pram_job.specs.declared.instr.Array.{Array}
use Rattle.pram_job.specs.declared.instr.Instr.{Instr}
use Rattle.pram_job.specs.declared.instr.Instr.TheVariants.{Pid, Add, Sub, Lt, Eq, St, Jz, Jmp}
use Rattle.pram_job.specs.declared.instr.Instr.TheVariants.{Halt}
use Rattle.pram_job.specs.declared.instr.Operand.TheVariants.{Register, Number}
use Rattle.pram_job.specs.declared.instr.Place.TheVariants.{Named}
use Rattle.pram_job.specs.Job.{JobData, job_data}
use Rattle.pardo_program.specs.declared.operation.Op.TheVariants as op
use Rattle.pardo_program.specs.declared.statement.Line.{Line}
use Rattle.pardo_program.specs.declared.statement.Statement.{Statement}
use Rattle.pardo_program.specs.declared.statement.Statement.TheVariants.{Assign, If, Else, EndIf}
use Rattle.pardo_program.specs.declared.statement.Statement.TheVariants.{While, EndWhile, For}
use Rattle.pardo_program.specs.declared.statement.Statement.TheVariants.{EndFor}
use Rattle.pardo_program.specs.declared.statement.Target.{Target}
use Rattle.pardo_program.specs.declared.statement.Target.TheVariants.{Private, Array as Shared}
use Rattle.pardo_program.specs.Expression.{Tree}
use Rattle.pardo_program.specs.Program.{ProgramData}
use Rattle.pardo_flat.specs.Layouts.{ProgramLayoutData, program_layout, start_values, cell_count}
use Rattle.pardo_flat.specs.Layouts.{private_cells, loop_cells, mask_cells, array_cells}
use Rattle.pardo_flat.specs.Statements.{statement_at}
use Rattle.pardo_job.specs.Operations.{native, register_code, register_or_spare}
use Rattle.pardo_job.specs.Values.{own_place, own_load, value_operand, takes, is_truth, value_code}

-- ---- straight pieces, by the registers from 0 on

-- an assignment: the value, then the index, and last the store
unfoldable pub assignment_code : ProgramLayoutData → Target → Tree → List Instr
assignment_code layout (Private x) tree = value_code layout 0 tree
    ++ St (own_place (private_cells layout x)) (value_operand 0 tree) ∷ []
assignment_code layout (Shared array index) tree = value_code layout 0 tree
    ++ (value_code layout (takes tree) index
    ++ St (Named (array_cells layout array) (value_operand (takes tree) index))
    (value_operand 0 tree)
    ∷ [])

-- a condition: register 0 becomes 1 where its value is not 0, and else 0
unfoldable pub condition_code : ProgramLayoutData → Tree → List Instr
condition_code layout tree = value_code layout 0 tree
    ++ (if is_truth tree then []
    else native 0 op.Eq (value_operand 0 tree) (Number 0) ++ native 0 op.Eq (Register 0) (Number 0))

-- the condition of a `while`, in a register
unfoldable pub while_code : ProgramLayoutData → Tree → List Instr
while_code layout tree = value_code layout 0 tree ++ register_code 0 (value_operand 0 tree)

-- whether a loop has no turn, in register 0
unfoldable pub none_code : ProgramLayoutData → Bool → Tree → Tree → List Instr
none_code layout up first last = value_code layout 0 first
    ++ (value_code layout (takes first) last
    ++ native 0 (if up then op.Gt else op.Lt) (value_operand 0 first)
    (value_operand (takes first) last))

-- the variable of a loop becomes its first value
unfoldable pub first_code : ProgramLayoutData → ℕ → Tree → List Instr
first_code layout nest first = value_code layout 0 first
    ++ St (own_place (loop_cells layout nest)) (value_operand 0 first) ∷ []

-- register 0 becomes the variable of a loop, and register 1 is 0 in the last turn
unfoldable pub turn_code : ProgramLayoutData → ℕ → Tree → List Instr
turn_code layout nest last = own_load 0 (loop_cells layout nest)
    ∷ (value_code layout 1 last ++ Sub 1 0 (value_operand 1 last) ∷ [])

-- ---- lines

-- a processor's own cell of a row becomes register 0
abbrev pub own_store : Array → Instr
own_store cells = St (own_place cells) (Register 0)

-- steps that do nothing, as many as the count, from this place on
abbrev pub no_code : ℕ → ℕ → List Instr
no_code at zero = []
no_code at (suc count) = Jmp (at + 1) ∷ no_code (at + 1) count

-- What an active processor does; the others are idle as long.
unfoldable pub masked : ProgramLayoutData → ℕ → ℕ → List Instr → List Instr
masked layout at depth body =
    if depth == 0 then body
    else own_load 0 (mask_cells layout depth) ∷ Jz 0 (at + 3) ∷ Jmp (at + 4 + length body)
    ∷ (no_code (at + 3) (length body) ++ Jmp (at + 4 + 2 * length body) ∷ body)

-- the mask after an `if`: 0 for those that are not active
unfoldable pub choosing : ProgramLayoutData → ℕ → ℕ → List Instr → List Instr
choosing layout at depth body =
    (if depth == 0 then body
    else own_load 0 (mask_cells layout depth) ∷ Jz 0 (at + 3 + length body)
    ∷ (body ++ Jmp (at + 4 + 2 * length body) ∷ no_code (at + 3 + length body) (length body + 1)))
    ++ own_store (mask_cells layout (depth + 1)) ∷ []

-- the mask after an `else`
unfoldable pub others : ProgramLayoutData → ℕ → List Instr
others layout depth = own_load 0 (mask_cells layout (depth + 1))
    ∷ ((if depth == 0 then Eq 0 0 (Number 0) ∷ []
    else own_load 1 (mask_cells layout depth) ∷ Lt 0 0 (Register 1) ∷ [])
    ++ own_store (mask_cells layout (depth + 1)) ∷ [])

abbrev pub next_value : Bool → Instr
next_value up = if up then Add 0 0 (Number 1) else Sub 0 0 (Number 1)

-- the end of the loop that begins in the line `begin`
abbrev pub loop_end : ProgramLayoutData → (ℕ → ℕ) → ℕ → Statement → List Instr
loop_end layout place_of begin (For nest first last up end) = turn_code layout nest last
    ++ (Jz 1 (place_of (end + 1)) ∷ next_value up ∷ own_store (loop_cells layout nest)
    ∷ Jmp (place_of (begin + 1)) ∷ [])
loop_end layout place_of begin _ = []

-- The code of a line that stands at this place, where lines have these places.
unfoldable pub line_code : ProgramData → (ℕ → ℕ) → ℕ → ℕ → Statement → List Instr
line_code program place_of at depth (Assign target tree) =
    masked (program_layout program) at depth (assignment_code (program_layout program) target tree)
line_code program place_of at depth (If tree) =
    choosing (program_layout program) at depth (condition_code (program_layout program) tree)
line_code program place_of at depth Else = others (program_layout program) depth
line_code program place_of at depth EndIf = []
line_code program place_of at depth (While tree end) = while_code (program_layout program) tree
    ++ Jz (register_or_spare 0 (value_operand 0 tree)) (place_of (end + 1)) ∷ []
line_code program place_of at depth (EndWhile begin) = Jmp (place_of begin) ∷ []
line_code program place_of at depth (For nest first last up end) =
    let test = none_code (program_layout program) up first last in
    test ++ (Jz 0 (at + length test + 2) ∷ Jmp (place_of (end + 1))
    ∷ first_code (program_layout program) nest first)
line_code program place_of at depth (EndFor begin) =
    loop_end (program_layout program) place_of begin (statement_at program begin)

-- ---- programs

-- how many instructions a line has, wherever it stands
unfoldable pub length_of_line : ProgramData → Line → ℕ
length_of_line program line = length (line_code program (λ j. 0) 0 line.depth line.statement)

-- The place of the line j, and of the end after the last one: the first instruction stands before.
unfoldable pub place_of : ProgramData → ℕ → ℕ
place_of program j = 1 + sum_by (length_of_line program) (take j program.lines)

-- the code of these lines, which are those from this place on
abbrev pub code_from : ProgramData → ℕ → List Line → List Instr
code_from program at [] = Halt ∷ []
code_from program at (line ∷ lines) =
    line_code program (place_of program) at line.depth line.statement
    ++ code_from program (at + length_of_line program line) lines

unfoldable pub code_of : ProgramData → List Instr
code_of program = Pid 3 ∷ code_from program 1 program.lines

-- the job of a program, which ends after so many steps
unfoldable pub job_of : ProgramData → ℕ → JobData
job_of program steps = job_data program.rule (cell_count (program_layout program))
    program.procs steps (start_values program) (code_of program)
