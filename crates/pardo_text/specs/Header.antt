-- Header lines.
use Rattle.std.specs.Prelude.{ℕ, ◌*◌, ◌==◌, nat_lt, if◌then◌else◌, List, [], ◌∷◌}
use Rattle.std.specs.Prelude.{codes, Option, Some, None, Result, Ok, Err}
use Rattle.std.specs.Str.{bytes_eq}
use Rattle.pardo_text.specs.declared.fault.PardoKind.{PardoKind}
use Rattle.pardo_text.specs.declared.fault.PardoKind.TheVariants.{BadHeader, OutOfLimits}
use Rattle.pardo_program.specs.declared.arrays.Shape.{Shape}
use Rattle.pardo_program.specs.declared.arrays.Shape.TheVariants as shape
use Rattle.pardo_program.specs.declared.limits.TheConstants.{MAX_CELLS, MAX_PROCS}
use Rattle.pardo_text.specs.declared.names.Named.TheVariants as thing
use Rattle.pardo_text.specs.declared.names.Scope.TheVariants.{Start}
use Rattle.pram_job.specs.declared.instr.Rule.{Rule}
use Rattle.pram_job.specs.declared.instr.Rule.TheVariants.{Common, Priority, Crew}
use Rattle.pardo_text.specs.declared.draft.Stage.TheVariants as stage
use Rattle.pardo_text.specs.declared.symbol.Symbol.TheVariants as the
use Rattle.pardo_text.specs.Drafts.{Draft, with_name, with_array, with_private, fitting}
use Rattle.pardo_program.specs.Expression.{Tree, number}
use Rattle.pardo_text.specs.Expressions.{Read, rest_after_mark}
use Rattle.pardo_text.specs.Expressions.{indexed, ended, new_name, expression_at, fixed_at}
use Rattle.text_lines.specs.Lines.{Word}
use Rattle.pardo_text.specs.Names.{Names}
use Rattle.pardo_program.specs.Program.{places_of_shape}
use Rattle.text_lines.specs.Reads.{◌>>=◌}
use Rattle.pardo_text.specs.Tokens.{Token, name, number as literal, symbol}
use Rattle.pardo_program.specs.Operations.{greatest_value}
use Rattle.pardo_text.specs.Values.{values_for, start_at}
use Rattle.pardo_text.specs.declared.part.Mark.TheVariants as mark

-- `pardo 1`
unfoldable pub version_line : Draft → List Token → Result Draft PardoKind
version_line draft (symbol the.Pardo ∷ literal version ∷ []) =
    if version == 1 then Ok (record draft { stage = stage.Rule }) else Err BadHeader
version_line draft _ = Err BadHeader

abbrev pub rule_named : Word → Result Rule PardoKind
rule_named word =
    if bytes_eq word (codes "common") then Ok Common
    else (if bytes_eq word (codes "priority") then Ok Priority
    else (if bytes_eq word (codes "crew") then Ok Crew else Err BadHeader))

-- `rule NAME`
unfoldable pub rule_line : Draft → List Token → Result Draft PardoKind
rule_line draft (symbol the.Rule ∷ name word ∷ []) = do
  rule ← rule_named word
  Ok (record draft { stage = stage.Header; rule = rule })
rule_line draft _ = Err BadHeader

-- what follows `const`
unfoldable pub const_line : Draft → List Token → Result Draft PardoKind
const_line draft tokens = do
  word ← new_name draft.names tokens
  after ← rest_after_mark mark.Equals word.1
  value ← fixed_at draft.names 0 greatest_value after
  ended (with_name word.0 (thing.Constant value.0) draft) value.1

-- what follows `procs`, which stands once
unfoldable pub procs_line : Draft → List Token → Result Draft PardoKind
procs_line draft tokens =
    if draft.procs == 0
    then (do
      word ← new_name draft.names tokens
      after ← rest_after_mark mark.Less word.1
      procs ← fixed_at draft.names 1 MAX_PROCS after
      ended (with_name word.0 thing.Own (record draft { procs = procs.0 })) procs.1)
    else Err BadHeader

-- what follows a comma, if one follows
abbrev pub after_comma : List Token → Option (List Token)
after_comma (symbol the.Comma ∷ rest) = Some rest
after_comma _ = None

-- so many rows and columns, if their places are not too many
abbrev pub table_of : ℕ → ℕ → List Token → Read Shape
table_of rows columns rest =
    if nat_lt MAX_CELLS (rows * columns) then Err OutOfLimits
    else Ok (shape.Table rows columns, rest)

-- after how many places or rows there are: how many columns, after a comma
abbrev pub columns_at : Names → ℕ → List Token → Option (List Token) → Read Shape
columns_at names rows tokens None = Ok (shape.Line rows, tokens)
columns_at names rows tokens (Some inside) = do
  columns ← fixed_at names 1 MAX_CELLS inside
  table_of rows columns.0 columns.1

-- the shape of an array; a scalar has no brackets
abbrev pub shape_at : Names → List Token → Option (List Token) → Read Shape
shape_at names tokens None = Ok (shape.Scalar, tokens)
shape_at names tokens (Some inside) = do
  rows ← fixed_at names 1 MAX_CELLS inside
  form ← columns_at names rows.0 rows.1 (after_comma rows.1)
  rest ← rest_after_mark mark.CloseIndex form.1
  Ok (form.0, rest)

-- what follows `shared`
unfoldable pub shared_line : Draft → List Token → Result Draft PardoKind
shared_line draft tokens = do
  word ← new_name draft.names tokens
  form ← shape_at draft.names word.1 (indexed word.1)
  start ← start_at draft.names (places_of_shape form.0) form.1
  fitting (with_array word.0 form.0 start draft)

-- the start value of a private variable, to the end of the line
unfoldable pub private_start : Names → List Token → Result Tree PardoKind
private_start names [] = Ok (number 0)
private_start names (token ∷ tokens) = do
  after ← rest_after_mark mark.Equals (token ∷ tokens)
  tree ← expression_at names Start after
  ended tree.0 tree.1

-- what follows `private`, after the line `procs`
unfoldable pub private_line : Draft → List Token → Result Draft PardoKind
private_line draft tokens =
    if draft.procs == 0 then Err BadHeader
    else (do
      word ← new_name draft.names tokens
      tree ← private_start draft.names word.1
      start ← values_for draft.procs tree
      fitting (with_private word.0 start draft))

-- what follows `code`, after the line `procs`
unfoldable pub code_line : Draft → List Token → Result Draft PardoKind
code_line draft [] =
    if draft.procs == 0 then Err BadHeader else Ok (record draft { stage = stage.Code })
code_line draft (token ∷ tokens) = Err BadHeader

-- a header line after the first two
unfoldable pub header_line : Draft → List Token → Result Draft PardoKind
header_line draft (symbol the.Const ∷ tokens) = const_line draft tokens
header_line draft (symbol the.Procs ∷ tokens) = procs_line draft tokens
header_line draft (symbol the.Shared ∷ tokens) = shared_line draft tokens
header_line draft (symbol the.Private ∷ tokens) = private_line draft tokens
header_line draft (symbol the.Code ∷ tokens) = code_line draft tokens
header_line draft _ = Err BadHeader
