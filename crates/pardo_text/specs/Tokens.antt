-- The tokens of a line.
use Rattle.std.specs.Prelude.{ℕ, zero, suc, ◌-◌, ◌^◌, min, Bool, not, ◌||◌, ◌==◌, if◌then◌else◌}
use Rattle.std.specs.Prelude.{List, [], ◌∷◌, length, take, drop, codes, unwrap_or}
use Rattle.std.specs.Prelude.{Option, Some, None, Result, Ok, Err}
use Rattle.std.specs.Char.{is_ascii_digit, is_ascii_alphabetic, is_ascii_alphanumeric}
use Rattle.std.specs.List.{position}
use Rattle.std.specs.Str.{bytes_eq}
use Rattle.std.specs.Str.Parse.{digits_value}
use Rattle.pardo_text.specs.declared.fault.PardoKind.{PardoKind}
use Rattle.pardo_text.specs.declared.fault.PardoKind.TheVariants.{BadSymbol}
use Rattle.pardo_program.specs.declared.operation.Op.TheVariants as op
use Rattle.pardo_text.specs.declared.symbol.Symbol.{Symbol}
use Rattle.pardo_text.specs.declared.symbol.Symbol.TheVariants as the
use Rattle.text_lines.specs.Lines.{Word, is_blank}

pub data Token : Type 0 where
  name : Word → Token
  number : ℕ → Token
  symbol : Symbol → Token

-- the number that digits spell, or the greatest of 64 bits where it is greater
abbrev pub number_spelled : Word → ℕ
number_spelled digits = min (digits_value 10 digits) (2 ^ 64 - 1)

-- the symbols that are spelled like names
abbrev pub keywords : List (Word × Symbol)
keywords =
    (codes "pardo", the.Pardo) ∷ (codes "rule", the.Rule) ∷ (codes "const", the.Const)
    ∷ (codes "procs", the.Procs) ∷ (codes "shared", the.Shared) ∷ (codes "private", the.Private)
    ∷ (codes "code", the.Code) ∷ (codes "for", the.For) ∷ (codes "to", the.To)
    ∷ (codes "downto", the.Downto) ∷ (codes "while", the.While) ∷ (codes "if", the.If)
    ∷ (codes "else", the.Else) ∷ (codes "end", the.End) ∷ (codes "lg", the.Lg)
    ∷ (codes "and", the.Operator op.And) ∷ (codes "or", the.Operator op.Or)
    ∷ (codes "xor", the.Operator op.BitXor) ∷ (codes "min", the.Operator op.Min)
    ∷ (codes "max", the.Operator op.Max) ∷ []

-- the other symbols: where one begins another, the longer one first
abbrev pub marks : List (Word × Symbol)
marks =
    (codes "...", the.Dots) ∷ (codes ":=", the.Assign) ∷ (codes "!=", the.Operator op.Ne)
    ∷ (codes "<=", the.Operator op.Le) ∷ (codes ">=", the.Operator op.Ge)
    ∷ (codes "<<", the.Operator op.Shl) ∷ (codes ">>", the.Operator op.Shr)
    ∷ (codes "+", the.Operator op.Add) ∷ (codes "-", the.Operator op.Sub)
    ∷ (codes "*", the.Operator op.Mul) ∷ (codes "/", the.Operator op.Div)
    ∷ (codes "%", the.Operator op.Rem) ∷ (codes "&", the.Operator op.BitAnd)
    ∷ (codes "|", the.Operator op.BitOr) ∷ (codes "<", the.Operator op.Lt)
    ∷ (codes ">", the.Operator op.Gt) ∷ (codes "=", the.Operator op.Eq)
    ∷ (codes "(", the.Open) ∷ (codes ")", the.Close) ∷ (codes "[", the.OpenIndex)
    ∷ (codes "]", the.CloseIndex) ∷ (codes ",", the.Comma) ∷ []

-- the first row that is spelled so, or else a name
abbrev pub word_by : List (Word × Symbol) → Word → Token
word_by [] word = name word
word_by (row ∷ rows) word = if bytes_eq word row.0 then symbol row.1 else word_by rows word

-- the first row with which the line begins, and what is after it
abbrev pub mark_by : List (Word × Symbol) → List ℕ → Option (Token × List ℕ)
mark_by [] line = None
mark_by (row ∷ rows) line =
    if bytes_eq (take (length row.0) line) row.0
    then Some (symbol row.1, drop (length row.0) line) else mark_by rows line

-- a letter or `_`
abbrev pub begins_name : ℕ → Bool
begins_name byte = is_ascii_alphabetic byte || (byte == 95)

-- a letter, a digit or `_`
abbrev pub is_of_name : ℕ → Bool
is_of_name byte = is_ascii_alphanumeric byte || (byte == 95)

-- how many bytes of a kind stand in front
abbrev pub run_len : (ℕ → Bool) → List ℕ → ℕ
run_len is_of line = unwrap_or (position (λ byte. not (is_of byte)) line) (length line)

-- The longest token with which the line begins, and what is after it: a name or a keyword goes
-- on as long as it can, so does a number, and no other mark that fits is longer.
unfoldable pub token_at : List ℕ → Option (Token × List ℕ)
token_at [] = None
token_at (first ∷ rest) =
    let line = first ∷ rest in
    let word = run_len is_of_name line in
    let digits = run_len is_ascii_digit line in
    if begins_name first then Some (word_by keywords (take word line), drop word line)
    else (if is_ascii_digit first
    then Some (number (number_spelled (take digits line)), drop digits line)
    else mark_by marks line)

abbrev pub onto : Token → Result (List Token) PardoKind → Result (List Token) PardoKind
onto token (Ok tokens) = Ok (token ∷ tokens)
onto token (Err kind) = Err kind

-- Blanks separate tokens. Each turn takes a blank or a token, so a line has at most as many turns
-- as bytes.
abbrev pub tokens_in : ℕ → List ℕ → Result (List Token) PardoKind
tokens_in turns [] = Ok []
tokens_in zero (first ∷ rest) = Ok []
tokens_in (suc turns) (first ∷ rest) =
    if is_blank first then tokens_in turns rest
    else (elim (token_at (first ∷ rest)) [
      | None ↦ Err BadSymbol
      | Some found ↦ onto found.0 (tokens_in turns found.1)
    ])

unfoldable pub tokens_of : List ℕ → Result (List Token) PardoKind
tokens_of line = tokens_in (length line) line
