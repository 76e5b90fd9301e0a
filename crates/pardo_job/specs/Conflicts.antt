-- When a line is against the rule.
use Rattle.std.specs.Prelude.{◌≡◌, ℕ, ◌<◌, slice_get, Option, Some, None}
use Rattle.pram_step.specs.declared.answer.Dispute.{Dispute}
use Rattle.pram_step.specs.Disputes.{Clash, IsLeastClash}
use Rattle.pardo_program.specs.Program.{ProgramData}
use Rattle.pardo_job.specs.Meaning.{Source, asked_in}

-- what processor i asks for in the line that is next: a shared cell and a value
unfoldable pub asked_for : ProgramData → Source → ℕ → Option (ℕ × ℕ)
asked_for program source i = elim (slice_get program.lines source.at) [
  | None ↦ None
  | Some line ↦ asked_in program source line.depth line.statement i
]

-- processor i assigns the value to the cell in the line that is next
abbrev pub Assigns : ProgramData → Source → ℕ → ℕ → ℕ → Type 0
Assigns program source cell i value =
    (i < program.procs) × (asked_for program source i ≡ Some (cell, value))

-- processors i and j assign to the cell against the rule
abbrev pub LineClashes : ProgramData → Source → ℕ → ℕ → ℕ → Type 0
LineClashes program source = Clash program.rule (Assigns program source)

-- the line that is next agrees with the rule
abbrev pub LineAgrees : ProgramData → Source → Type 0
LineAgrees program source = (cell i j : ℕ) → LineClashes program source cell i j → ⊥

-- the dispute of a line that does not agree
abbrev pub IsLineDispute : ProgramData → Source → Dispute → Type 0
IsLineDispute program source = IsLeastClash program.rule (Assigns program source)
