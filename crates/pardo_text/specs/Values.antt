-- Start values.
use Rattle.std.specs.Prelude.{ℕ, zero, suc, ◌-◌, Bool, true, false, not, ◌&&◌, ◌||◌, ◌==◌, nat_lt}
use Rattle.std.specs.Prelude.{if◌then◌else◌, List, [], ◌∷◌, ◌++◌, length, replicate, slice_index}
use Rattle.std.specs.Prelude.{Option, Some, None, Result, Ok, Err}
use Rattle.pardo_text.specs.declared.fault.PardoKind.{PardoKind}
use Rattle.pardo_text.specs.declared.fault.PardoKind.TheVariants.{BadLine, OutOfLimits, WrongLength}
use Rattle.pardo_program.specs.declared.operation.Op.{Op}
use Rattle.pardo_text.specs.declared.symbol.Symbol.TheVariants as the
use Rattle.pardo_program.specs.Expression.{Tree, number, own, loop, private, place, apply}
use Rattle.pardo_text.specs.Expressions.{ended, fixed_at, rest_after_mark}
use Rattle.pardo_text.specs.Names.{Names}
use Rattle.pardo_program.specs.Operations.{greatest_value, is_division, operation_value}
use Rattle.text_lines.specs.Reads.{◌>>=◌}
use Rattle.pardo_text.specs.Tokens.{Token, symbol}
use Rattle.pardo_text.specs.declared.part.Mark.TheVariants as mark

-- ---- of private variables

abbrev pub quotient_of : Op → ℕ → ℕ → Result ℕ PardoKind
quotient_of op first second =
    if is_division op && (second == 0) then Err OutOfLimits else
    Ok (operation_value op first second)

-- the value for processor i; loops, variables and arrays have none before the program runs
abbrev pub value_for : ℕ → Tree → Result ℕ PardoKind
value_for i (number value) = Ok value
value_for i own = Ok i
value_for i (loop nest) = Ok 0
value_for i (private x) = Ok 0
value_for i (place array index) = value_for i index
value_for i (apply op first second) = do
  a ← value_for i first
  b ← value_for i second
  quotient_of op a b

-- the values for so many processors
abbrev pub values_for : ℕ → Tree → Result (List ℕ) PardoKind
values_for zero tree = Ok []
values_for (suc i) tree = do
  before ← values_for i tree
  value ← value_for i tree
  Ok (before ++ value ∷ [])

-- ---- of arrays

-- what follows `...`, if it stands here
abbrev pub after_dots : List Token → Option (List Token)
after_dots (symbol the.Dots ∷ rest) = Some rest
after_dots _ = None

-- what follows a value and a comma, where `more` reads other values; `...` ends them
abbrev pub values_next : (List Token → Result (List ℕ × Bool) PardoKind) → ℕ → List Token →
    Option (List Token) → Result (List ℕ × Bool) PardoKind
values_next more value tokens (Some end) = ended (value ∷ [], true) end
values_next more value tokens None = do
  others ← more tokens
  Ok (value ∷ others.0, others.1)

-- what follows a value
abbrev pub values_after : (List Token → Result (List ℕ × Bool) PardoKind) → ℕ → List Token →
    Result (List ℕ × Bool) PardoKind
values_after more value [] = Ok (value ∷ [], false)
values_after more value (token ∷ tokens) = do
  rest ← rest_after_mark mark.Comma (token ∷ tokens)
  values_next more value rest (after_dots rest)

-- at most so many values to the end of the line, and whether `...` ends them
abbrev pub values_in : Names → ℕ → List Token → Result (List ℕ × Bool) PardoKind
values_in names zero tokens = Err BadLine
values_in names (suc turns) tokens = do
  value ← fixed_at names 0 greatest_value tokens
  values_after (values_in names turns) value.0 value.1

-- As many values as places, or fewer and `...`: then the last one fills the rest.
abbrev pub filled : ℕ → List ℕ → Bool → Result (List ℕ) PardoKind
filled places values fills =
    if nat_lt places (length values) || (nat_lt (length values) places && not fills)
    then Err WrongLength
    else Ok (values ++ replicate (places - length values)
    (slice_index values (length values - 1)))

-- the values of so many places, to the end of the line: all 0 where none is given
unfoldable pub start_at : Names → ℕ → List Token → Result (List ℕ) PardoKind
start_at names places [] = Ok (replicate places 0)
start_at names places (token ∷ tokens) = do
  rest ← rest_after_mark mark.Equals (token ∷ tokens)
  values ← values_in names (length rest) rest
  filled places values.0 values.1
