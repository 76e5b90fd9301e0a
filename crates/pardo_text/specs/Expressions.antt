-- Expressions, read from tokens.
use Rattle.std.specs.Prelude.{ℕ, zero, suc, ◌-◌, ◌^◌, Bool, false, ◌&&◌, ◌||◌, ◌==◌, nat_lt}
use Rattle.std.specs.Prelude.{if◌then◌else◌, List, [], ◌∷◌, length, Option, Some, None, unwrap_or}
use Rattle.std.specs.Prelude.{is_some, Result, Ok, Err}
use Rattle.std.specs.Int.{w32, leading_zeros}
use Rattle.pardo_text.specs.declared.fault.PardoKind.{PardoKind}
use Rattle.pardo_text.specs.declared.fault.PardoKind.TheVariants.{BadLine, UnknownName}
use Rattle.pardo_text.specs.declared.fault.PardoKind.TheVariants.{DuplicateName, WrongKind}
use Rattle.pardo_text.specs.declared.fault.PardoKind.TheVariants.{OutOfLimits, TooDeep}
use Rattle.pardo_text.specs.declared.names.Named.{Named}
use Rattle.pardo_text.specs.declared.names.Named.TheVariants.{Array, Table}
use Rattle.pardo_text.specs.declared.names.Scope.{Scope}
use Rattle.pardo_text.specs.declared.names.Scope.TheVariants.{Fixed}
use Rattle.pardo_program.specs.declared.operation.Op.{Op}
use Rattle.pardo_program.specs.declared.operation.Op.TheVariants as op
use Rattle.pardo_text.specs.declared.symbol.Symbol.TheVariants as the
use Rattle.pardo_program.specs.Expression.{Tree, number, place}
use Rattle.pardo_program.specs.Folding.{applied, constant_of, tested}
use Rattle.text_lines.specs.Lines.{Word}
use Rattle.pardo_text.specs.Names.{Names, admits, tree_from}
use Rattle.pardo_program.specs.Operations.{level_of, is_division, comparisons, loosest}
use Rattle.text_lines.specs.Reads.{◌>>=◌}
use Rattle.pardo_text.specs.Tokens.{Token, name, number as literal, symbol}
use Rattle.pardo_text.specs.declared.part.Mark.{Mark}
use Rattle.pardo_text.specs.declared.part.Mark.TheVariants as mark

-- a part of a line, and the tokens after it
abbrev pub Read : Type 0 → Type 0
Read A = Result (A × List Token) PardoKind

-- ---- single tokens

-- what is after this mark, which has to come next
abbrev pub rest_after_mark : Mark → List Token → Result (List Token) PardoKind
rest_after_mark mark.Open (symbol the.Open ∷ rest) = Ok rest
rest_after_mark mark.Close (symbol the.Close ∷ rest) = Ok rest
rest_after_mark mark.Comma (symbol the.Comma ∷ rest) = Ok rest
rest_after_mark mark.CloseIndex (symbol the.CloseIndex ∷ rest) = Ok rest
rest_after_mark mark.Assign (symbol the.Assign ∷ rest) = Ok rest
rest_after_mark mark.Equals (symbol (the.Operator op.Eq) ∷ rest) = Ok rest
rest_after_mark mark.Less (symbol (the.Operator op.Lt) ∷ rest) = Ok rest
rest_after_mark mark tokens = Err BadLine

-- what follows the `[` after a name, if one follows
abbrev pub indexed : List Token → Option (List Token)
indexed (symbol the.OpenIndex ∷ rest) = Some rest
indexed _ = None

-- nothing is left over
abbrev pub ended : {A : Type 0} → A → List Token → Result A PardoKind
ended value [] = Ok value
ended value (token ∷ tokens) = Err BadLine

-- a name that is not known yet
abbrev pub new_name : Names → List Token → Read Word
new_name names (name word ∷ rest) =
    if is_some (names word) then Err DuplicateName else Ok (word, rest)
new_name names _ = Err BadLine

-- ---- what an operation makes of its operands

abbrev pub is_zero : Option ℕ → Bool
is_zero (Some value) = value == 0
is_zero None = false

-- No number divides that is 0.
unfoldable pub joined : Op → Tree → Tree → Result Tree PardoKind
joined op first second =
    if is_division op && is_zero (constant_of second) then Err OutOfLimits
    else Ok (applied op first second)

-- the number that an expression of constants is: it always is one
abbrev pub fixed_value : Tree → ℕ
fixed_value tree = unwrap_or (constant_of tree) 0

-- `lg`: how many bits the number before has, which is the least k with 2^k at least the number
unfoldable pub log_of : ℕ → ℕ
log_of value = 32 - leading_zeros w32 (value - 1)

-- ---- operands

-- how expressions are read within brackets
abbrev pub Inner : Type 0
Inner = Scope → List Token → Read Tree

abbrev pub literal_at : ℕ → List Token → Read Tree
literal_at value rest =
    if nat_lt value (2 ^ 32) then Ok (number value, rest) else Err OutOfLimits

-- what follows a `(`, up to its `)`
abbrev pub bracketed_at : Inner → Scope → List Token → Read Tree
bracketed_at inner scope tokens = do
  tree ← inner scope tokens
  rest ← rest_after_mark mark.Close tree.1
  Ok (tree.0, rest)

-- what follows `min` or `max`
abbrev pub pair_at : Inner → Scope → Op → List Token → Read Tree
pair_at inner scope op tokens = do
  opened ← rest_after_mark mark.Open tokens
  first ← inner scope opened
  between ← rest_after_mark mark.Comma first.1
  second ← inner scope between
  rest ← rest_after_mark mark.Close second.1
  Ok (applied op first.0 second.0, rest)

-- what follows `lg`
abbrev pub log_at : Inner → List Token → Read Tree
log_at inner tokens = do
  opened ← rest_after_mark mark.Open tokens
  tree ← inner Fixed opened
  rest ← rest_after_mark mark.Close tree.1
  Ok (number (log_of (fixed_value tree.0)), rest)

-- what follows the `[` after the name of an array
abbrev pub place_at : Inner → Scope → ℕ → Option (List Token) → Read Tree
place_at inner scope array None = Err WrongKind
place_at inner scope array (Some tokens) = do
  index ← inner scope tokens
  rest ← rest_after_mark mark.CloseIndex index.1
  Ok (place array index.0, rest)

-- ---- two indices

-- an index below n
abbrev pub index_at : Inner → Scope → ℕ → List Token → Read Tree
index_at inner scope n tokens = do
  tree ← inner scope tokens
  Ok (tested n tree.0 (constant_of tree.0), tree.1)

-- the comma after the first of two indices
abbrev pub after_row : List Token → Result (List Token) PardoKind
after_row (symbol the.Comma ∷ rest) = Ok rest
after_row (symbol the.CloseIndex ∷ rest) = Err WrongKind
after_row _ = Err BadLine

-- what follows the `[`, up to its `]`: the place in so many rows and columns, row by row
abbrev pub indices_at : Inner → Scope → ℕ → ℕ → List Token → Read Tree
indices_at inner scope rows columns tokens = do
  row ← index_at inner scope rows tokens
  between ← after_row row.1
  column ← index_at inner scope columns between
  rest ← rest_after_mark mark.CloseIndex column.1
  Ok (applied op.Add (applied op.Mul row.0 (number columns)) column.0, rest)

-- what follows the name of an array of two indices
abbrev pub table_at : Inner → Scope → ℕ → ℕ → ℕ → Option (List Token) → Read Tree
table_at inner scope array rows columns None = Err WrongKind
table_at inner scope array rows columns (Some tokens) = do
  index ← indices_at inner scope rows columns tokens
  Ok (place array index.0, index.1)

-- ---- names

-- An array has an index, or two, and nothing else has one.
abbrev pub used_at : Inner → Scope → Named → List Token → Read Tree
used_at inner scope (Array array) tokens = place_at inner scope array (indexed tokens)
used_at inner scope (Table array rows columns) tokens =
    table_at inner scope array rows columns (indexed tokens)
used_at inner scope thing tokens =
    if is_some (indexed tokens) then Err WrongKind else Ok (tree_from thing, tokens)

abbrev pub named_at : Inner → Scope → Option Named → List Token → Read Tree
named_at inner scope None tokens = Err UnknownName
named_at inner scope (Some thing) tokens =
    if admits scope thing then used_at inner scope thing tokens else Err WrongKind

unfoldable pub operand_at : Names → Inner → Inner
operand_at names inner scope (literal value ∷ rest) = literal_at value rest
operand_at names inner scope (name word ∷ rest) = named_at inner scope (names word) rest
operand_at names inner scope (symbol the.Open ∷ rest) = bracketed_at inner scope rest
operand_at names inner scope (symbol the.Lg ∷ rest) = log_at inner rest
operand_at names inner scope (symbol (the.Operator op) ∷ rest) =
    if level_of op == 0 then pair_at inner scope op rest else Err BadLine
operand_at names inner scope _ = Err BadLine

-- ---- levels

-- the operation of this level that comes next, and what is after it
unfoldable pub operator_at : ℕ → List Token → Option (Op × List Token)
operator_at level (symbol (the.Operator op) ∷ rest) =
    if level_of op == level then Some (op, rest) else None
operator_at level _ = None

-- At most so many operations of a level follow, each with its second operand; all that stands
-- before is its first.
abbrev pub chained : (List Token → Read Tree) → ℕ → ℕ → Tree → List Token → Read Tree
chained operand level zero first tokens = Ok (first, tokens)
chained operand level (suc turns) first tokens =
    elim (operator_at level tokens) [
      | None ↦ Ok (first, tokens)
      | Some found ↦ (operand found.1 >>= λ second. joined found.0 first second.0 >>=
          λ tree. chained operand level turns tree second.1)
    ]

-- A comparison has two operands alone.
abbrev pub turns_at : ℕ → List Token → ℕ
turns_at level tokens = if level == comparisons then 1 else length tokens

-- An expression of a level is a chain of expressions of the level below, and one of level 0 is an
-- operand.
unfoldable pub level_at : Inner → ℕ → Inner
level_at operand zero scope tokens = operand scope tokens
level_at operand (suc level) scope tokens = do
  first ← level_at operand level scope tokens
  chained (level_at operand level scope) (suc level) (turns_at (suc level) first.1)
      first.0 first.1

-- where so many brackets may still be opened
unfoldable pub within_at : Names → ℕ → Inner
within_at names zero scope tokens = Err TooDeep
within_at names (suc left) scope tokens =
    level_at (operand_at names (within_at names left)) loosest scope tokens

-- a whole expression, in which at most 32 brackets are open at once
unfoldable pub expression_at : Names → Inner
expression_at names scope tokens = within_at names 33 scope tokens

abbrev pub limited : ℕ → ℕ → ℕ → List Token → Read ℕ
limited low high value rest =
    if nat_lt value low || nat_lt high value then Err OutOfLimits else Ok (value, rest)

-- a number that is known at once, within limits
unfoldable pub fixed_at : Names → ℕ → ℕ → List Token → Read ℕ
fixed_at names low high tokens = do
  tree ← expression_at names Fixed tokens
  limited low high (fixed_value tree.0) tree.1
