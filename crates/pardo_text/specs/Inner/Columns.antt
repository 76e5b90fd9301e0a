-- Columns: the values of all processors, from processor 0 on, and stacks of them.
use Rattle.std.specs.Prelude.{ℕ, zero, suc, List, [], ◌∷◌, ◌++◌, drop, map, replicate, reverse}
use Rattle.std.specs.Prelude.{Result, Ok}
use Rattle.std.specs.Global.{Vec}
use Rattle.pardo_text.specs.declared.fault.PardoKind.{PardoKind}
use Rattle.pardo_program.specs.declared.operation.Op.{Op}
use Rattle.pardo_program.specs.declared.expression.Node.{Node}
use Rattle.pardo_program.specs.declared.expression.Node.TheVariants.{Number, Own, Loop, Private}
use Rattle.pardo_program.specs.declared.expression.Node.TheVariants.{Place, Apply}
use Rattle.text_lines.specs.Reads.{◌>>=◌}
use Rattle.pardo_text.specs.Values.{quotient_of}

-- the numbers below this one, which are the own numbers of so many processors
abbrev pub below : ℕ → List ℕ
below zero = []
below (suc n) = below n ++ n ∷ []

-- what an operation makes of each value and the one in its place, where there is one
abbrev pub quotients : Op → List ℕ → List ℕ → Result (List ℕ) PardoKind
quotients op [] others = Ok []
quotients op (value ∷ values) [] = Ok (value ∷ values)
quotients op (value ∷ values) (other ∷ others) = do
  first ← quotient_of op value other
  rest ← quotients op values others
  Ok (first ∷ rest)

abbrev pub top_of : List (List ℕ) → List ℕ
top_of [] = []
top_of (column ∷ columns) = column

-- a stack after one node more, for so many processors
abbrev pub with_column : ℕ → Node → List (List ℕ) → Result (List (List ℕ)) PardoKind
with_column procs (Number value) columns = Ok (replicate procs value ∷ columns)
with_column procs Own columns = Ok (below procs ∷ columns)
with_column procs (Loop nest) columns = Ok (replicate procs 0 ∷ columns)
with_column procs (Private x) columns = Ok (replicate procs 0 ∷ columns)
with_column procs (Place array) columns = Ok columns
with_column procs (Apply op) columns = do
  values ← quotients op (top_of (drop 1 columns)) (top_of columns)
  Ok (values ∷ drop 2 columns)

-- what is on top of a stack after all these nodes
abbrev pub column_after : ℕ → List Node → List (List ℕ) → Result (List ℕ) PardoKind
column_after procs [] columns = Ok (top_of columns)
column_after procs (node ∷ nodes) columns =
    with_column procs node columns >>= λ next. column_after procs nodes next

-- stacks of the code, whose top is the last one
abbrev pub columns_in : List (Vec ℕ) → List (List ℕ)
columns_in columns = reverse (map (λ column. column.items) columns)
