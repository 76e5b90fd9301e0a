-- Tests of indices that cannot fail are left out.
use Rattle.std.specs.Prelude.{ℕ, ◌-◌, Bool, false, ◌||◌, nat_le, nat_lt, if◌then◌else◌, max}
use Rattle.std.specs.Prelude.{List, [], ◌∷◌, ◌++◌, length, map, slice_get, slice_set, take}
use Rattle.std.specs.Prelude.{Option, Some, None, unwrap_or}
use Rattle.std.specs.List.{fold}
use Rattle.std.specs.Option.{is_none}
use Rattle.pardo_program.specs.declared.operation.Op.{Op}
use Rattle.pardo_program.specs.declared.operation.Op.TheVariants as op
use Rattle.pardo_program.specs.declared.statement.Line.{Line}
use Rattle.pardo_program.specs.declared.statement.Statement.{Statement}
use Rattle.pardo_program.specs.declared.statement.Statement.TheVariants.{Assign, If, For, EndFor}
use Rattle.pardo_program.specs.declared.statement.Target.{Target}
use Rattle.pardo_program.specs.declared.statement.Target.TheVariants as target
use Rattle.pardo_program.specs.Expression.{Tree, own, loop, private, place, apply}
use Rattle.pardo_program.specs.Folding.{constant_of}
use Rattle.pardo_program.specs.Program.{PrivateData, ProgramData}
use Rattle.pardo_program.specs.Operations.{greatest_value}

-- what is known of values: how many processors there are, and what each private variable, and the
-- variable of each open loop, the innermost last, is at most
pub record Known : Type 0 where
  pub procs : ℕ
  pub privates : List ℕ
  pub loops : List ℕ

-- ---- expressions

abbrev pub is_most_below : ℕ → Option ℕ → Bool
is_most_below n None = false
is_most_below n (Some most) = nat_lt most n

-- a remainder by k is below n
abbrev pub is_rest_below : ℕ → Op → Option ℕ → Bool
is_rest_below n op.Rem (Some k) = nat_le k n
is_rest_below n _ k = false

-- its value is always below n
unfoldable pub is_below : Known → ℕ → Tree → Bool
is_below known n own = nat_le known.procs n
is_below known n (private x) = is_most_below n (slice_get known.privates x)
is_below known n (loop nest) = is_most_below n (slice_get known.loops nest)
is_below known n (apply op first second) = is_rest_below n op (constant_of second)
is_below known n _ = false

-- an operation, unless it is a test that cannot fail: then its first operand
abbrev pub untested : Known → Op → Tree → Tree → Option ℕ → Tree
untested known op.Within index bound (Some n) =
    if is_below known n index then index else apply op.Within index bound
untested known op first second n = apply op first second

abbrev pub without_tests : Known → Tree → Tree
without_tests known (place array index) = place array (without_tests known index)
without_tests known (apply op first second) =
    let bound = without_tests known second in
    untested known op (without_tests known first) bound (constant_of bound)
without_tests known tree = tree

-- ---- lines

abbrev pub target_untested : Known → Target → Target
target_untested known (target.Array array index) = target.Array array (without_tests known index)
target_untested known to = to

-- a loop depends on no place of two indices
abbrev pub statement_untested : Known → Statement → Statement
statement_untested known (Assign to value) =
    Assign (target_untested known to) (without_tests known value)
statement_untested known (If condition) = If (without_tests known condition)
statement_untested known statement = statement

-- What a loop's variable is at most: its greater bound, where that is a number. Of one that counts
-- down to what is no number nothing is known.
abbrev pub loop_most : Bool → Tree → Tree → ℕ
loop_most up first last =
    let greater = if up || is_none (constant_of last) then last else first in
    unwrap_or (constant_of greater) greatest_value

-- what is known after a line: the first line of a loop opens it, and its end closes the innermost
abbrev pub known_after : Known → Statement → Known
known_after known (For nest first last up end) =
    record known { loops = known.loops ++ loop_most up first last ∷ [] }
known_after known (EndFor begin) =
    record known { loops = take (length known.loops - 1) known.loops }
known_after known statement = known

abbrev pub lines_untested : Known → List Line → List Line
lines_untested known [] = []
lines_untested known (line ∷ lines) =
    record line { statement = statement_untested known line.statement }
    ∷ lines_untested (known_after known line.statement) lines

-- ---- programs

-- a private variable that a line assigns may have each value
abbrev pub widened : List ℕ → Statement → List ℕ
widened mosts (Assign (target.Private x) value) = slice_set mosts x greatest_value
widened mosts statement = mosts

abbrev pub widened_by : List ℕ → List Line → List ℕ
widened_by mosts [] = mosts
widened_by mosts (line ∷ lines) = widened_by (widened mosts line.statement) lines

-- what a private variable starts with at most
abbrev pub greatest_start : PrivateData → ℕ
greatest_start variable = fold max 0 variable.start

abbrev pub known_of : ProgramData → Known
known_of program = record {
  procs = program.procs;
  privates = widened_by (map greatest_start program.privates) program.lines;
  loops = [];
}

abbrev pub program_untested : ProgramData → ProgramData
program_untested program =
    record program { lines = lines_untested (known_of program) program.lines }
