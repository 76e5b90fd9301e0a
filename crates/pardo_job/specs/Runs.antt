-- The run of a program, and what it ends with.
use Rattle.std.specs.Prelude.{◌≡◌, ℕ, ◌<◌, ◌⊎◌, IsTrue, length, is_some, slice_get}
use Rattle.std.specs.Prelude.{Some, None}
use Rattle.pardo_program.specs.Program.{ProgramData}
use Rattle.pardo_job.specs.Meaning.{Source, after}
use Rattle.pram_step.specs.declared.answer.Dispute.{Dispute}
use Rattle.pardo_job.specs.Conflicts.{LineAgrees, IsLineDispute}

-- all processors are gone
abbrev pub AllGone : ProgramData → Source → Type 0
AllGone program source = (i : ℕ) → i < program.procs → IsTrue (is_some (source.gone i))

-- there is no next line, or no processor
abbrev pub IsProgramOver : ProgramData → Source → Type 0
IsProgramOver program source = (length program.lines ≡ source.at) ⊎ AllGone program source

-- there is a state after n lines: each of the lines before is there, and agrees with the rule
abbrev pub IsLineReached : ProgramData → ℕ → Type 0
IsLineReached program n = (earlier : ℕ) → earlier < n →
    (IsProgramOver program (after program earlier) → ⊥) × LineAgrees program (after program earlier)

-- the number in the text of the line that is next
abbrev pub line_number : ProgramData → Source → ℕ
line_number program source = elim (slice_get program.lines source.at) [
  | None ↦ 0
  | Some line ↦ line.number
]

-- The program is over after n lines.
pub record IsProgramEnd (program : ProgramData) (n : ℕ) : Type 0 where
  pub reached : IsLineReached program n
  pub over : IsProgramOver program (after program n)

-- The line after n lines is the first that is against the rule.
pub record IsProgramConflict (program : ProgramData) (n : ℕ) (dispute : Dispute) : Type 0 where
  pub reached : IsLineReached program n
  pub goes_on : IsProgramOver program (after program n) → ⊥
  pub disputed : IsLineDispute program (after program n) dispute
