-- What a program means, without a machine: its states, and what a line makes of a state.
use Rattle.std.specs.Prelude.{ℕ, zero, suc, ◌+◌, Bool, false, not, ◌&&◌, ◌==◌, nat_lt}
use Rattle.std.specs.Prelude.{if◌then◌else◌, length, slice_get}
use Rattle.std.specs.Prelude.{slice_index, Option, Some, None}
use Rattle.std.specs.Prelude.{unwrap_or, is_some}
use Rattle.std.specs.List.{flat_map}
use Rattle.std.specs.Option.{option_map, option_and_then, option_or, is_none}
use Rattle.pardo_program.specs.declared.operation.Op.TheVariants as op
use Rattle.pardo_program.specs.declared.statement.Statement.{Statement}
use Rattle.pardo_program.specs.declared.statement.Statement.TheVariants.{Assign, If, Else, EndIf}
use Rattle.pardo_program.specs.declared.statement.Statement.TheVariants.{While, EndWhile, For}
use Rattle.pardo_program.specs.declared.statement.Statement.TheVariants.{EndFor}
use Rattle.pardo_program.specs.declared.statement.Target.TheVariants.{Private, Array}
use Rattle.pardo_program.specs.Expression.{Tree, number, own, loop, private, place, apply}
use Rattle.pardo_program.specs.Operations.{operation_value, worked_out}
use Rattle.pardo_program.specs.Program.{ProgramData}
use Rattle.pardo_flat.specs.Statements.{statement_at}

-- ---- states

-- What there is between two lines.
pub record Source : Type 0 where
  -- the next line, which is one for all processors; lines count from 0
  pub at : ℕ
  -- the value of each shared cell
  pub cells : ℕ → ℕ
  -- the value of each private variable, for each processor
  pub privates : ℕ → ℕ → ℕ
  -- the value of the variable of the loop that stands in so many others, one for all processors
  pub loops : ℕ → ℕ
  -- whether the mask of a line that so many `if`s are open before has a processor
  pub masks : ℕ → ℕ → Bool
  -- the line of the text in which a processor was *gone*, if it is: so is called here who named a
  -- place that there is not, or divided by 0, and does nothing from then on
  pub gone : ℕ → Option ℕ

-- the start value of a private variable for processor i
abbrev pub private_at_start : ProgramData → ℕ → ℕ → ℕ
private_at_start program x i = elim (slice_get program.privates x) [
  | None ↦ 0
  | Some variable ↦ slice_index variable.start i
]

-- Before the first line all processors are there, and in the mask of no `if`.
abbrev pub program_start : ProgramData → Source
program_start program = record {
  at = 0;
  cells = slice_index (flat_map (λ array. array.start) program.arrays);
  privates = private_at_start program;
  loops = λ nest. 0;
  masks = λ depth i. depth == 0;
  gone = λ i. None;
}

-- it is in the mask of a line of this depth, and not gone
abbrev pub is_active : Source → ℕ → ℕ → Bool
is_active source depth i = source.masks depth i && is_none (source.gone i)

-- ---- values

-- the shared cell of a place of an array, if the array has it
abbrev pub array_cell : ProgramData → ℕ → ℕ → Option ℕ
array_cell program array index = elim (slice_get program.arrays array) [
  | None ↦ None
  | Some held ↦ if nat_lt index (length held.start) then Some (held.base + index) else None
]

-- The value of an expression for processor i. There is none where an array does not have a place,
-- or a divisor is 0.
abbrev pub value : ProgramData → Source → ℕ → Tree → Option ℕ
value program source i (number k) = Some k
value program source i own = Some i
value program source i (loop nest) = Some (source.loops nest)
value program source i (private x) = Some (source.privates x i)
value program source i (place array index) =
    option_and_then (λ k. option_map source.cells (array_cell program array k))
    (value program source i index)
value program source i (apply op first second) =
    option_and_then (λ a. option_and_then (worked_out op a) (value program source i second))
    (value program source i first)

-- the value of an expression of which each processor has the same, or none
abbrev pub common_value : ProgramData → Source → Tree → Option ℕ
common_value program source tree = value program source 0 tree

-- ---- writing

-- what processor i writes to a shared cell, if its value and its place are there
abbrev pub write_of : ProgramData → Source → ℕ → ℕ → Tree → Tree → Option (ℕ × ℕ)
write_of program source array i index tree =
    option_and_then (λ v. option_map (λ cell. (cell, v))
    (option_and_then (array_cell program array) (value program source i index)))
    (value program source i tree)

-- what processor i asks for in a line of this depth: nothing if it is not active
abbrev pub asked_in : ProgramData → Source → ℕ → Statement → ℕ → Option (ℕ × ℕ)
asked_in program source depth (Assign (Array array index) tree) i =
    if is_active source depth i then write_of program source array i index tree else None
asked_in program source depth _ i = None

-- the value that is written to a cell, if any
abbrev pub given_to : ℕ → Option (ℕ × ℕ) → Option ℕ
given_to cell None = None
given_to cell (Some write) = if write.0 == cell then Some write.1 else None

-- the first there is, among those of the processors below n
abbrev pub first_below : ℕ → (ℕ → Option ℕ) → Option ℕ
first_below zero values = None
first_below (suc n) values = option_or (first_below n values) (values n)

-- each cell takes the value of its least writer
abbrev pub value_written : ProgramData → Source → (ℕ → Option (ℕ × ℕ)) → ℕ → ℕ
value_written program source asked cell =
    unwrap_or (first_below program.procs (λ i. given_to cell (asked i))) (source.cells cell)

-- ---- what a line does

abbrev pub on_to : ℕ → Source → Source
on_to line source = record source { at = line }

-- the active processors that have no value are gone in the line of this number
abbrev pub losing : ℕ → ℕ → (ℕ → Bool) → Source → ℕ → Option ℕ
losing text_line depth has source i =
    if is_active source depth i && not (has i) then Some text_line else source.gone i

abbrev pub is_true : Option ℕ → Bool
is_true None = false
is_true (Some value) = not (value == 0)

-- `x := e`
abbrev pub private_assigned : ProgramData → ℕ → ℕ → ℕ → Tree → Source → Source
private_assigned program text_line depth x tree source = record source {
  privates = λ y i. if (y == x) && is_active source depth i
      then unwrap_or (value program source i tree) (source.privates y i)
      else source.privates y i;
  gone = losing text_line depth (λ i. is_some (value program source i tree)) source;
}

-- `A[f] := e`
abbrev pub shared_assigned : ProgramData → ℕ → ℕ → ℕ → Tree → Tree → Source → Source
shared_assigned program text_line depth array index tree source = record source {
  cells = value_written program source
      (asked_in program source depth (Assign (Array array index) tree));
  gone = losing text_line depth (λ i. is_some (write_of program source array i index tree)) source;
}

-- `if e`: the active processors whose value is not 0
abbrev pub chosen : ProgramData → ℕ → ℕ → Tree → Source → Source
chosen program text_line depth tree source = record source {
  masks = λ d i. if d == depth + 1
      then is_active source depth i && is_true (value program source i tree)
      else source.masks d i;
  gone = losing text_line depth (λ i. is_some (value program source i tree)) source;
}

-- `else`: those of the mask around that the condition did not choose
abbrev pub otherwise : ℕ → Source → Source
otherwise depth source = record source {
  masks = λ d i. if d == depth + 1
      then source.masks depth i && not (source.masks d i)
      else source.masks d i;
}

-- the variable of a loop takes a value
abbrev pub loop_turned : ℕ → ℕ → Source → Source
loop_turned nest value source = record source {
  loops = λ n. if n == nest then value else source.loops n;
}

-- whether a loop from the first of these values to the second has no turn
abbrev pub has_none : Bool → ℕ → ℕ → Bool
has_none up first last = if up then nat_lt last first else nat_lt first last

-- the next value of the variable of a loop
abbrev pub next_turn : Bool → ℕ → ℕ
next_turn up value = if up then operation_value op.Add value 1 else operation_value op.Sub value 1

-- all that are there are gone in the line of this number, and the program is over
abbrev pub abandoned : ProgramData → ℕ → Source → Source
abandoned program text_line source = record source {
  at = length program.lines;
  gone = λ i. option_or (source.gone i) (Some text_line);
}

-- a line of a loop goes by this value, if there is one
abbrev pub by_common : ProgramData → ℕ → Source → Option ℕ → (ℕ → Source) → Source
by_common program text_line source None goes = abandoned program text_line source
by_common program text_line source (Some value) goes = goes value

-- The end of the loop that begins in the line `begin`: the last turn is that of its last value.
abbrev pub loop_ended : ProgramData → ℕ → ℕ → Statement → Source → Source
loop_ended program text_line begin (For nest first last up end) source =
    by_common program text_line source (common_value program source last) (λ b.
    if source.loops nest == b then on_to (end + 1) source
    else on_to (begin + 1) (loop_turned nest (next_turn up (source.loops nest)) source))
loop_ended program text_line begin _ source = source

-- The state after a line, the next one being that after it where nothing else is said.
abbrev pub after_statement : ProgramData → ℕ → ℕ → Statement → Source → Source
after_statement program text_line depth (Assign (Private x) tree) source =
    on_to (source.at + 1) (private_assigned program text_line depth x tree source)
after_statement program text_line depth (Assign (Array array index) tree) source =
    on_to (source.at + 1) (shared_assigned program text_line depth array index tree source)
after_statement program text_line depth (If tree) source =
    on_to (source.at + 1) (chosen program text_line depth tree source)
after_statement program text_line depth Else source =
    on_to (source.at + 1) (otherwise depth source)
after_statement program text_line depth EndIf source = on_to (source.at + 1) source
after_statement program text_line depth (While tree end) source =
    by_common program text_line source (common_value program source tree) (λ value.
    if value == 0 then on_to (end + 1) source else on_to (source.at + 1) source)
after_statement program text_line depth (EndWhile begin) source = on_to begin source
after_statement program text_line depth (For nest first last up end) source =
    by_common program text_line source (common_value program source first) (λ a.
    by_common program text_line source (common_value program source last) (λ b.
    if has_none up a b then on_to (end + 1) source
    else on_to (source.at + 1) (loop_turned nest a source)))
after_statement program text_line depth (EndFor begin) source =
    loop_ended program text_line begin (statement_at program begin) source

-- the state after the line that is next, if there is one
unfoldable pub next : ProgramData → Source → Source
next program source = elim (slice_get program.lines source.at) [
  | None ↦ source
  | Some line ↦ after_statement program line.number line.depth line.statement source
]

-- the state after n lines
unfoldable pub after : ProgramData → ℕ → Source
after program zero = program_start program
after program (suc n) = next program (after program n)
