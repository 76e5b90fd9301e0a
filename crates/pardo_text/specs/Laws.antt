-- What the laws say of texts.
use Rattle.std.specs.Prelude.{◌≡◌, ◌⊎◌, ℕ, ◌+◌, ◌≤◌, ◌<◌, ◌^◌, List, [], ◌∷◌, ◌++◌}
use Rattle.std.specs.Prelude.{length, map, IsTrue, IfOk, Some, Result, Ok, Err}
use Rattle.std.specs.List.{list_all}
use Rattle.pardo_text.specs.declared.fault.PardoFault.{PardoFault}
use Rattle.pardo_text.specs.declared.fault.PardoKind.{PardoKind}
use Rattle.pardo_program.specs.declared.limits.TheConstants.{MAX_CELLS, MAX_PROCS, MAX_OPEN}
use Rattle.pardo_text.specs.declared.names.Scope.TheVariants.{Fixed}
use Rattle.pardo_text.specs.Drafts.{Draft, empty}
use Rattle.pardo_program.specs.Expression.{number}
use Rattle.pardo_text.specs.Expressions.{expression_at, log_of}
use Rattle.pardo_program.specs.Lawful.{IsProgram}
use Rattle.text_lines.specs.Lines.{HasOtherLine}
use Rattle.text_lines.specs.Lines.{lines_of, is_blank, said_in}
use Rattle.pardo_text.specs.Names.{Names}
use Rattle.pardo_program.specs.Nested.{IsNested}
use Rattle.pardo_program.specs.Program.{ProgramData}
use Rattle.pardo_text.specs.Reading.{is_comment, is_readable}
use Rattle.pardo_text.specs.Reading.{with_text_line, program_in, program_of}
use Rattle.pardo_text.specs.Settings.{SettingData, line_as_set, settled, text_as_set}
use Rattle.text_lines.specs.Reads.{◌>>=◌}
use Rattle.pardo_text.specs.Tokens.{Token, token_at, tokens_of}
use Rattle.pardo_program.specs.Variables.{AreDistinct, variable_names}

-- cells, processors and open brackets
abbrev pub ProgramLimitsAre : Type 0
ProgramLimitsAre = (MAX_CELLS ≡ 1048576) × (MAX_PROCS ≡ 65536) × (MAX_OPEN ≡ 32)

-- ---- tokens

-- No longer front of a line is a token than the one that is taken.
abbrev pub TokensAreLongest : Type 0
TokensAreLongest =
    (line front after : List ℕ) (token other : Token) (rest : List ℕ)
    → token_at line ≡ Some (token, rest) → line ≡ front ++ after
    → token_at front ≡ Some (other, []) → length front + length rest ≤ length line

-- ---- expressions

-- `lg` gives the least k with 2^k at least the number
abbrev pub LgIsLeast : Type 0
LgIsLeast = (value : ℕ) → value < 2 ^ 32 →
    (value ≤ 2 ^ log_of value) × ((k : ℕ) → value ≤ 2 ^ k → log_of value ≤ k)

-- where a number must be known at once, an expression is a number
abbrev pub ConstantsAreNumbers : Type 0
ConstantsAreNumbers = (names : Names) (tokens : List Token) →
    IfOk (expression_at names Fixed tokens) (λ read. (value : ℕ) × (read.0 ≡ number value))

-- ---- texts

-- a line that says the same, wherever it stands
abbrev pub SayTheSame : List ℕ → List ℕ → Type 0
SayTheSame line other = (n : ℕ) (draft : Draft) →
    with_text_line n draft line ≡ with_text_line n draft other

-- A comment goes from its `;` to the end of the line, and is any text.
abbrev pub ProgramCommentsSayNothing : Type 0
ProgramCommentsSayNothing = (line comment : List ℕ) → IsTrue (is_comment comment) →
    SayTheSame (line ++ 59 ∷ comment) line

-- blanks before the first token of a line
abbrev pub IndentationSaysNothing : Type 0
IndentationSaysNothing = (blanks line : List ℕ) → IsTrue (list_all is_blank blanks) →
    SayTheSame (blanks ++ line) line

-- a line without a token
abbrev pub EmptyLinesSayNothing : Type 0
EmptyLinesSayNothing = (number : ℕ) (draft : Draft) (line : List ℕ) →
    IsTrue (is_readable line) → tokens_of (said_in line) ≡ Ok [] →
    with_text_line number draft line ≡ Ok draft

-- Texts whose lines say the same are the same program, or have the same fault.
abbrev pub LinesAreWhatTheySay : Type 0
LinesAreWhatTheySay =
    (text other line other_line : List ℕ) → HasOtherLine text other line other_line
    → SayTheSame line other_line → program_of text ≡ program_of other

-- what lines say that stand after so many others
abbrev pub drafted : Draft → ℕ → List (List ℕ) → Result Draft PardoKind
drafted draft n [] = Ok draft
drafted draft n (line ∷ lines) =
    with_text_line (n + 1) draft line >>= λ next. drafted next (n + 1) lines

-- the lines before are taken, and the line of the fault is not
pub record IsBadLine (text : List ℕ) (fault : PardoFault) : Type 0 where
  pub before : List (List ℕ)
  pub line : List ℕ
  pub after : List (List ℕ)
  pub draft : Draft
  pub lines : lines_of text ≡ before ++ line ∷ after
  pub number : fault.line ≡ length before + 1
  pub taken : drafted empty 0 before ≡ Ok draft
  pub bad : with_text_line fault.line draft line ≡ Err fault.kind

-- all lines are taken, and something lacks at the end
pub record IsIncomplete (text : List ℕ) (fault : PardoFault) : Type 0 where
  pub draft : Draft
  pub number : fault.line ≡ length (lines_of text)
  pub taken : drafted empty 0 (lines_of text) ≡ Ok draft
  pub bad : program_in draft ≡ Err fault.kind

-- a fault is that of the first bad line, or of the end
abbrev pub FirstBadLine : Type 0
FirstBadLine = (text : List ℕ) (fault : PardoFault) → program_of text ≡ Err fault →
    IsBadLine text fault ⊎ IsIncomplete text fault

-- a program is what all lines of its text say
abbrev pub AllLinesAreTaken : Type 0
AllLinesAreTaken = (text : List ℕ) (program : ProgramData) → program_of text ≡ Ok program →
    (draft : Draft) × (drafted empty 0 (lines_of text) ≡ Ok draft)
    × (program_in draft ≡ Ok program)

abbrev pub ProgramsAreLawful : Type 0
ProgramsAreLawful = (text : List ℕ) → IfOk (program_of text) IsProgram

-- each block is closed by its own `end`
abbrev pub ProgramsAreNested : Type 0
ProgramsAreNested = (text : List ℕ) → IfOk (program_of text) (λ program. IsNested program.lines)

-- no two variables have one name
abbrev pub NamesAreDistinct : Type 0
NamesAreDistinct = (text : List ℕ) →
    IfOk (program_of text) (λ program. AreDistinct (variable_names program))

-- ---- settings

abbrev pub NothingSetChangesNothing : Type 0
NothingSetChangesNothing = (text : List ℕ) → text_as_set [] text ≡ text

-- The lines of the text as it is set are its lines as they are set, in their places.
abbrev pub SetLinesStay : Type 0
SetLinesStay = (settings : List SettingData) (text : List ℕ) →
    lines_of (text_as_set settings text)
    ≡ map (line_as_set (settled settings text)) (lines_of text)
