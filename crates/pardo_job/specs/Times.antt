-- Time, operations and rounds of a program's run, and how the first two fall to its lines. Counted
-- are assignments, and an `if` whose condition reads shared memory; the other lines say who takes
-- part.
use Rattle.std.specs.Prelude.{◌≡◌, ◌⊎◌, ℕ, zero, suc, ◌+◌, Bool, true, false, ◌||◌, ◌==◌}
use Rattle.std.specs.Prelude.{nat_lt, if◌then◌else◌, max, count_by, slice_get, None, Some}
use Rattle.std.specs.Prelude.{List, [], ◌∷◌, ◌++◌}
use Rattle.std.specs.List.{range_with_len}
use Rattle.pram_step.specs.declared.answer.Dispute.{Dispute}
use Rattle.pardo_program.specs.declared.statement.Line.{Line}
use Rattle.pardo_program.specs.declared.statement.Statement.{Statement}
use Rattle.pardo_program.specs.declared.statement.Statement.TheVariants.{Assign, If}
use Rattle.pardo_program.specs.declared.statement.Statement.TheVariants.{EndFor, EndWhile}
use Rattle.pardo_program.specs.declared.expression.Node.{Node}
use Rattle.pardo_program.specs.declared.expression.Node.TheVariants.{Place}
use Rattle.pardo_program.specs.Expression.{Tree, place, apply}
use Rattle.pardo_program.specs.Operations.{bit}
use Rattle.pardo_program.specs.Program.{ProgramData}
use Rattle.pardo_flat.specs.Flat.{first_flat_of, flat}
use Rattle.pardo_flat.specs.Statements.{statement_at}
use Rattle.pardo_job.specs.declared.times.CountedLine.{CountedLine}
use Rattle.pardo_job.specs.Lines.{place_of}
use Rattle.pardo_job.specs.Meaning.{Source, after, is_active}
use Rattle.pardo_job.specs.Runs.{IsProgramConflict, IsProgramEnd}

abbrev pub reads_shared : Tree → Bool
reads_shared (place array index) = true
reads_shared (apply op first second) = reads_shared first || reads_shared second
reads_shared _ = false

-- a node of an expression that does
abbrev pub is_place : Node → Bool
is_place (Place array) = true
is_place _ = false

abbrev pub is_counted : Statement → Bool
is_counted (Assign target tree) = true
is_counted (If tree) = reads_shared tree
is_counted _ = false

-- whether it is the `end` of a loop
abbrev pub ends_loop : Statement → Bool
ends_loop (EndWhile begin) = true
ends_loop (EndFor begin) = true
ends_loop _ = false

-- how many processors take part in the line that is next: the active ones, if it is counted
unfoldable pub taking_part : ProgramData → Source → ℕ
taking_part program source = elim (slice_get program.lines source.at) [
  | None ↦ 0
  | Some line ↦ if is_counted line.statement
      then count_by (is_active source line.depth) (range_with_len 0 program.procs)
      else 0
]

-- ---- of the first n lines of a run

-- operations: each line adds those that take part in it
unfoldable pub operations_to : ProgramData → ℕ → ℕ
operations_to program zero = 0
operations_to program (suc n) = operations_to program n + taking_part program (after program n)

-- time: how many of the lines have one that takes part
unfoldable pub time_to : ProgramData → ℕ → ℕ
time_to program zero = 0
time_to program (suc n) =
    time_to program n + bit (nat_lt 0 (taking_part program (after program n)))

-- rounds: how many of the lines are the `end` of a loop
unfoldable pub rounds_to : ProgramData → ℕ → ℕ
rounds_to program zero = 0
rounds_to program (suc n) =
    rounds_to program n + bit (ends_loop (statement_at program (after program n).at))

-- The lines of a run are those before its end, or up to the one in conflict, which counts too.
abbrev pub AreAllLines : ProgramData → ℕ → Type 0
AreAllLines program n = IsProgramEnd program n ⊎ ((before : ℕ) × (dispute : Dispute)
    × IsProgramConflict program before dispute × (n ≡ before + 1))

-- ---- of one line among them

-- how many take part in the line j, if it is next
abbrev pub taking_part_in : ProgramData → ℕ → Source → ℕ
taking_part_in program j source = if source.at == j then taking_part program source else 0

-- how often the line is executed
unfoldable pub line_times : ProgramData → ℕ → ℕ → ℕ
line_times program j zero = 0
line_times program j (suc n) = line_times program j n + bit ((after program n).at == j)

unfoldable pub line_time : ProgramData → ℕ → ℕ → ℕ
line_time program j zero = 0
line_time program j (suc n) =
    line_time program j n + bit (nat_lt 0 (taking_part_in program j (after program n)))

unfoldable pub line_operations : ProgramData → ℕ → ℕ → ℕ
line_operations program j zero = 0
line_operations program j (suc n) =
    line_operations program j n + taking_part_in program j (after program n)

-- the most that take part in it at once
unfoldable pub line_most : ProgramData → ℕ → ℕ → ℕ
line_most program j zero = 0
line_most program j (suc n) =
    max (line_most program j n) (taking_part_in program j (after program n))

-- how many instructions a line of this depth begins with that test the mask
abbrev pub behind_mask : ℕ → ℕ
behind_mask depth = if depth == 0 then 0 else 2

-- the instruction of the line j that each active processor executes once, and nobody else: the
-- one behind them
abbrev pub counted_place : ProgramData → ℕ → ℕ → ℕ
counted_place program j depth = place_of program j + behind_mask depth

-- ---- the counted lines

-- the line j, whose code begins with this instruction, if it is counted
abbrev pub counted_line : ℕ → ℕ → Line → List CountedLine
counted_line first j line =
    if is_counted line.statement
    then record {
      at = j;
      number = line.number;
      first = first;
      own = first + behind_mask line.depth;
    } ∷ []
    else []

-- those among these lines, the first of which is the line j
abbrev pub counted_from : ProgramData → ℕ → List Line → List CountedLine
counted_from program j [] = []
counted_from program j (line ∷ lines) =
    counted_line (place_of (flat program) (first_flat_of program j)) j line
    ++ counted_from program (j + 1) lines

-- ---- the ends of loops

-- where the code of the line j begins, or that of the hidden lines before it
abbrev pub place_of_line : ProgramData → ℕ → ℕ
place_of_line program j = place_of (flat program) (first_flat_of program j)

-- this first instruction of a line, if that is the `end` of a loop
abbrev pub loop_end_at : ℕ → Statement → List ℕ
loop_end_at first statement = if ends_loop statement then first ∷ [] else []

-- the first instructions of those among these lines, the first of which is the line j
abbrev pub loop_ends_from : ProgramData → ℕ → List Line → List ℕ
loop_ends_from program j [] = []
loop_ends_from program j (line ∷ lines) =
    loop_end_at (place_of_line program j) line.statement ++ loop_ends_from program (j + 1) lines

-- of all of them
abbrev pub loop_ends : ProgramData → List ℕ
loop_ends program = loop_ends_from program 0 program.lines
