-- Reading: the program of a text, or its first bad line and its fault.
use Rattle.std.specs.Prelude.{◌≡◌, ◌≢◌, ℕ, ◌+◌, ◌==◌, nat_le, if◌then◌else◌, List, [], ◌∷◌, drop}
use Rattle.std.specs.Prelude.{Bool, not, ◌&&◌, ◌||◌, Result, Ok, Err}
use Rattle.std.specs.List.{list_all, position_or_len}
use Rattle.std.specs.Str.{is_utf8}
use Rattle.pardo_text.specs.declared.fault.PardoFault.{PardoFault}
use Rattle.pardo_text.specs.declared.fault.PardoKind.{PardoKind}
use Rattle.pardo_text.specs.declared.fault.PardoKind.TheVariants.{NotAscii, BadHeader, OpenBlock}
use Rattle.pardo_text.specs.declared.fault.PardoKind.TheVariants.{NoCode, Memory}
use Rattle.pardo_program.specs.declared.block.Block.{Block}
use Rattle.pardo_text.specs.declared.draft.Stage.{Stage}
use Rattle.pardo_text.specs.declared.draft.Stage.TheVariants as stage
use Rattle.pardo_program.specs.declared.statement.Line.{Line}
use Rattle.pardo_text.specs.Code.{statement_line}
use Rattle.pardo_text.specs.Drafts.{Draft, empty}
use Rattle.pardo_text.specs.Header.{version_line, rule_line, header_line}
use Rattle.text_lines.specs.Lines.{lines_of, said_in, is_allowed}
use Rattle.pardo_program.specs.Program.{ProgramData}
use Rattle.pardo_program.specs.Tests.{program_untested}
use Rattle.text_lines.specs.Reads.{◌>>=◌}
use Rattle.pardo_text.specs.Tokens.{Token, tokens_of}

-- what stands from the first semicolon on
abbrev pub comment_of : List ℕ → List ℕ
comment_of line = drop (position_or_len (λ byte. byte == 59) line) line

-- tab, carriage return, and what is no control character of ASCII
unfoldable pub is_no_control : ℕ → Bool
is_no_control byte = (byte == 9) || (byte == 13) || (nat_le 32 byte && not (byte == 127))

-- UTF-8 without control characters
abbrev pub is_comment : List ℕ → Bool
is_comment bytes = is_utf8 bytes && list_all is_no_control bytes

-- Before its comment a line is printable ASCII.
unfoldable pub is_readable : List ℕ → Bool
is_readable line = list_all is_allowed (said_in line) && is_comment (comment_of line)

-- one line more, by what comes next
abbrev pub line_in_stage : Stage → ℕ → Draft → List Token → Result Draft PardoKind
line_in_stage stage.Version number draft tokens = version_line draft tokens
line_in_stage stage.Rule number draft tokens = rule_line draft tokens
line_in_stage stage.Header number draft tokens = header_line draft tokens
line_in_stage stage.Code number draft tokens = statement_line number draft tokens

-- A line without a token says nothing.
abbrev pub with_tokens : ℕ → Draft → List Token → Result Draft PardoKind
with_tokens number draft [] = Ok draft
with_tokens number draft (token ∷ tokens) = line_in_stage draft.stage number draft (token ∷ tokens)

-- the draft with the line of this number
unfoldable pub with_text_line : ℕ → Draft → List ℕ → Result Draft PardoKind
with_text_line number draft line =
    if not (is_readable line) then Err NotAscii
    else (do
      tokens ← tokens_of (said_in line)
      with_tokens number draft tokens)

-- what a draft says of the program
abbrev pub said_so_far : Draft → ProgramData
said_so_far draft = record {
  rule = draft.rule;
  procs = draft.procs;
  arrays = draft.arrays;
  privates = draft.privates;
  loops = draft.most_loops;
  choices = draft.most_choices;
  lines = draft.lines;
}

-- the program of a draft whose lines were all read, or what it lacks
abbrev pub finished_draft : Stage → List Block → List Line → Draft → Result ProgramData PardoKind
finished_draft stage.Code [] (first ∷ lines) draft = Ok (program_untested (said_so_far draft))
finished_draft stage.Code [] [] draft = Err NoCode
finished_draft stage.Code (block ∷ blocks) lines draft = Err OpenBlock
finished_draft _ blocks lines draft = Err BadHeader

unfoldable pub program_in : Draft → Result ProgramData PardoKind
program_in draft = finished_draft draft.stage draft.blocks draft.lines draft

-- a fault of this line
abbrev pub on_line : {A : Type 0} → ℕ → Result A PardoKind → Result A PardoFault
on_line number (Ok value) = Ok value
on_line number (Err kind) = Err (record { line = number; kind = kind })

-- what follows, unless a line before has a fault
abbrev pub and_then : {A B : Type 0} → Result A PardoFault → (A → Result B PardoFault) →
    Result B PardoFault
and_then (Ok value) next = next value
and_then (Err fault) next = Err fault

-- the program of a draft of so many lines and of these lines after it; what a text lacks at its
-- end is a fault of its last line
abbrev pub program_after : Draft → ℕ → List (List ℕ) → Result ProgramData PardoFault
program_after draft number [] = on_line number (program_in draft)
program_after draft number (line ∷ lines) =
    and_then (on_line (number + 1) (with_text_line (number + 1) draft line))
    (λ next. program_after next (number + 1) lines)

-- the program of a text, or its first bad line, counted from 1, and what is wrong with it
unfoldable pub program_of : List ℕ → Result ProgramData PardoFault
program_of text = program_after empty 0 (lines_of text)

-- A refusal names the fault of the text. Out of memory it says nothing of it, and names line 0.
abbrev pub IsReaderRefusal : List ℕ → PardoFault → Type 0
IsReaderRefusal text fault =
    (fault.kind ≢ Memory → program_of text ≡ Err fault) × (fault.kind ≡ Memory → fault.line ≡ 0)
