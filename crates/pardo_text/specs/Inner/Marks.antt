-- Words and marks by kinds, as they are looked for.
use Rattle.std.specs.Prelude.{ℕ, ◌==◌, if◌then◌else◌, List, [], ◌∷◌, ◌++◌, codes, map}
use Rattle.std.specs.Prelude.{Option, Some, None}
use Rattle.std.specs.Str.{bytes_eq}
use Rattle.pardo_program.specs.declared.operation.Op.TheVariants as op
use Rattle.pardo_text.specs.declared.symbol.Symbol.{Symbol}
use Rattle.pardo_text.specs.declared.symbol.Symbol.TheVariants as the

-- the first row that is spelled so
abbrev pub spelled_by : List (List ℕ × Symbol) → List ℕ → Option Symbol
spelled_by [] word = None
spelled_by (row ∷ rows) word = if bytes_eq word row.0 then Some row.1 else spelled_by rows word

-- the first row of this byte
abbrev pub byte_by : List (ℕ × Symbol) → ℕ → Option Symbol
byte_by [] byte = None
byte_by (row ∷ rows) byte = if byte == row.0 then Some row.1 else byte_by rows byte

-- the words that stand before the code
abbrev pub header_words : List (List ℕ × Symbol)
header_words =
    (codes "pardo", the.Pardo) ∷ (codes "rule", the.Rule) ∷ (codes "const", the.Const)
    ∷ (codes "procs", the.Procs) ∷ (codes "shared", the.Shared) ∷ (codes "private", the.Private)
    ∷ (codes "code", the.Code) ∷ []

-- the words that begin or end blocks
abbrev pub words_of_blocks : List (List ℕ × Symbol)
words_of_blocks =
    (codes "for", the.For) ∷ (codes "to", the.To) ∷ (codes "downto", the.Downto)
    ∷ (codes "while", the.While) ∷ (codes "if", the.If) ∷ (codes "else", the.Else)
    ∷ (codes "end", the.End) ∷ []

-- the words in expressions
abbrev pub operation_words : List (List ℕ × Symbol)
operation_words =
    (codes "lg", the.Lg) ∷ (codes "and", the.Operator op.And) ∷ (codes "or", the.Operator op.Or)
    ∷ (codes "xor", the.Operator op.BitXor) ∷ (codes "min", the.Operator op.Min)
    ∷ (codes "max", the.Operator op.Max) ∷ []

-- the marks of several bytes
abbrev pub long_marks : List (List ℕ × Symbol)
long_marks =
    (codes "...", the.Dots) ∷ (codes ":=", the.Assign) ∷ (codes "!=", the.Operator op.Ne)
    ∷ (codes "<=", the.Operator op.Le) ∷ (codes ">=", the.Operator op.Ge)
    ∷ (codes "<<", the.Operator op.Shl) ∷ (codes ">>", the.Operator op.Shr) ∷ []

-- the operations that are marks of one byte: `+-*/%&|<>=`
abbrev pub operation_bytes : List (ℕ × Symbol)
operation_bytes =
    (43, the.Operator op.Add) ∷ (45, the.Operator op.Sub) ∷ (42, the.Operator op.Mul)
    ∷ (47, the.Operator op.Div) ∷ (37, the.Operator op.Rem) ∷ (38, the.Operator op.BitAnd)
    ∷ (124, the.Operator op.BitOr) ∷ (60, the.Operator op.Lt) ∷ (62, the.Operator op.Gt)
    ∷ (61, the.Operator op.Eq) ∷ []

-- the other marks of one byte: `()[],`
abbrev pub other_bytes : List (ℕ × Symbol)
other_bytes =
    (40, the.Open) ∷ (41, the.Close) ∷ (91, the.OpenIndex) ∷ (93, the.CloseIndex)
    ∷ (44, the.Comma) ∷ []

-- rows of one byte each
abbrev pub byte_rows : List (ℕ × Symbol) → List (List ℕ × Symbol)
byte_rows rows = map (λ row. (row.0 ∷ [], row.1)) rows

abbrev pub short_marks : List (List ℕ × Symbol)
short_marks = byte_rows (operation_bytes ++ other_bytes)
