-- What the laws say of a text.
use Rattle.std.specs.Prelude.{◌≡◌, ◌⊎◌, ◌↔◌, ℕ, ◌+◌, ◌≤◌, ◌<◌, ◌==◌}
use Rattle.std.specs.Prelude.{List, [], ◌∷◌, ◌++◌, length, count_by, IsTrue, None}
use Rattle.std.specs.List.{list_all, join_with_byte}
use Rattle.pram_text.specs.declared.fault.TextKind.{TextKind}
use Rattle.pram_text.specs.declared.fault.TextKind.TheVariants.{UnknownLabel}
use Rattle.pram_job.specs.Job.{JobData, IsJob}
use Rattle.text_lines.specs.Lines.{lines_of, words_of, is_allowed, is_blank, HasOtherLine}
use Rattle.pram_text.specs.Text.{Spells, Bears, fault_at}
use Rattle.pram_text.specs.InstructionLines.{instruction_lines}

-- the lines, joined by line feeds, are the text
abbrev pub LinesAreJoined : Type 0
LinesAreJoined = (text : List ℕ) → join_with_byte 10 (lines_of text) ≡ text

-- one line more than line feeds
abbrev pub LinesAreCounted : Type 0
LinesAreCounted = (text : List ℕ) → length (lines_of text) ≡ count_by (λ byte. byte == 10) text + 1

abbrev pub OneJob : Type 0
OneJob =
    (text : List ℕ) (job other : JobData) → Spells text job → Spells text other → job ≡ other

abbrev pub SpelledJobIsLawful : Type 0
SpelledJobIsLawful = (text : List ℕ) (job : JobData) → Spells text job → IsJob job

abbrev pub SpelledBearsNothing : Type 0
SpelledBearsNothing =
    (text : List ℕ) (job : JobData) (line : ℕ) (kind : TextKind) → Spells text job →
    Bears text line kind → ⊥

abbrev pub OneFault : Type 0
OneFault =
    (text : List ℕ) (line other_line : ℕ) (kind other_kind : TextKind)
    → Bears text line kind → Bears text other_line other_kind →
    (line ≡ other_line) × (kind ≡ other_kind)

abbrev pub JobOrFault : Type 0
JobOrFault =
    (text : List ℕ) → ((job : JobData) × Spells text job)
    ⊎ ((line : ℕ) × (kind : TextKind) × Bears text line kind)

abbrev pub FaultIsWithin : Type 0
FaultIsWithin =
    (text : List ℕ) (line : ℕ) (kind : TextKind)
    → Bears text line kind → (1 ≤ line) × (line ≤ length (lines_of text))

-- where no line has another fault
abbrev pub UnknownLabelComesLast : Type 0
UnknownLabelComesLast =
    (text : List ℕ) (line : ℕ) (kind : TextKind) → Bears text line kind
    → ((index : ℕ) → index < length (lines_of text) → fault_at (lines_of text) index ≡ None) →
    kind ≡ UnknownLabel

-- both texts spell the same jobs
abbrev pub SpellsSame : List ℕ → List ℕ → Type 0
SpellsSame text other = (job : JobData) → Spells text job ↔ Spells other job

-- both texts bear the same faults
abbrev pub BearsSame : List ℕ → List ℕ → Type 0
BearsSame text other = (line : ℕ) (kind : TextKind) → Bears text line kind ↔ Bears other line kind

-- a comment goes from its `;` to the end of the line
abbrev pub CommentsSayNothing : Type 0
CommentsSayNothing =
    (text other line comment : List ℕ) → HasOtherLine text other line (line ++ 59 ∷ comment)
    → IsTrue (list_all is_allowed comment) → SpellsSame text other × BearsSame text other

abbrev pub BlanksSayNothing : Type 0
BlanksSayNothing =
    (text other left line right : List ℕ) → HasOtherLine text other line (left ++ line ++ right)
    → IsTrue (list_all is_blank left) → IsTrue (list_all is_blank right)
    → SpellsSame text other × BearsSame text other

-- a line without words can be left out
abbrev pub WordlessLinesAreSkipped : Type 0
WordlessLinesAreSkipped =
    (text other : List ℕ) (before : List (List ℕ)) (line : List ℕ) (after : List (List ℕ))
    → lines_of text ≡ before ++ line ∷ after → lines_of other ≡ before ++ after
    → IsTrue (list_all is_allowed line) → words_of line ≡ [] → SpellsSame text other

-- each instruction of a job stands on a line of its text
abbrev pub InstructionsHaveLines : Type 0
InstructionsHaveLines =
    (text : List ℕ) (job : JobData) → Spells text job →
    length (instruction_lines text) ≡ length job.code
