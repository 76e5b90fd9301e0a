-- The reader of a cell, as a script.
use Rattle.std.specs.Prelude.{ℕ, ◌-◌, ◌/◌, ◌%◌, ◌&&◌, ◌==◌, ◌<◌, nat_le, if◌then◌else◌, List, ◌∷◌}
use Rattle.std.specs.List.{AllByRecursion}
use Rattle.pram_job.specs.Job.{JobData}
use Rattle.pram_words.specs.Stamps.{stamp_of, payload_of}
use Rattle.pram_words.specs.Words.{LayoutData, Admits, number_of, length_of}
use Rattle.pram_words.specs.declared.words.Word.TheVariants.{Conflict, Node, Stored}
use Rattle.walkx.specs.declared.operation.Op.{Op}
use Rattle.walkx.specs.declared.operation.Op.TheVariants.{Load}
use Rattle.walkx.specs.declared.operation.ReadOp.{ReadOp}
use Rattle.walkx.specs.declared.operation.ReadOp.TheVariants as read
use Rattle.walkx.specs.declared.operation.Reading.{Reading}
use Rattle.walkx.specs.declared.operation.Reading.TheVariants.{At}
use Rattle.walkx.specs.Scripts.{Script, asks, ends, rest, heard_in}
use Rattle.pram_words.specs.Stamps.{newer_payload}
use Rattle.walkx.specs.Walk.{HearsAdmitted}

-- *Seen step*: the step that the root and then word 0 show to be finished.
abbrev pub step_seen : ℕ → ℕ → ℕ
step_seen root conflict = if (root % 3 == 0) && (nat_le 1 (root / 3) && (conflict == root / 3))
    then root / 3 - 1 else root / 3

-- of two words the one with the lesser stamp, the first one if the stamps are equal: written in a
-- finished step
abbrev pub lesser : ℕ → ℕ → ℕ
lesser first second = if nat_le (stamp_of first) (stamp_of second) then first else second

abbrev pub told_at : ℕ → Script Reading
told_at first = ends (At (stamp_of first) (payload_of first))

-- Both words of the cell are loaded, and the first once more where only the second is newer than
-- the step seen.
unfoldable pub read_script : LayoutData → ℕ → ℕ → Script Reading
read_script layout cell step =
    asks (Load (number_of layout (Stored cell 0)))
    (λ first. asks (Load (number_of layout (Stored cell 1))) (λ second.
    if nat_le (stamp_of first) step
    then (if nat_le (stamp_of second) step then ends (At step (newer_payload first second))
    else asks (Load (number_of layout (Stored cell 0))) (λ again.
    if again == first then ends (At step (payload_of first)) else told_at (lesser again second)))
    else (if nat_le (stamp_of second) step then ends (At step (payload_of second))
    else told_at (lesser first second))))

unfoldable pub reader_script : LayoutData → ℕ → Script Reading
reader_script layout cell = asks (Load (number_of layout (Node 1))) (λ root.
    if root % 3 == 0 then asks (Load (number_of layout Conflict)) (λ conflict.
    read_script layout cell (step_seen root conflict))
    else read_script layout cell (step_seen root 0))

-- a reader: its cell, and the answers heard, the newest first
pub record Looking : Type 0 where
  pub cell : ℕ
  pub heard : List ℕ

abbrev pub look_of : LayoutData → Looking → Script Reading
look_of layout reader = rest (reader_script layout reader.cell) reader.heard

abbrev pub load_of : Op → ReadOp
load_of (Load word) = read.Load word
load_of _ = read.Load 0

abbrev pub looks_for : Script Reading → ReadOp
looks_for (asks op next) = load_of op
looks_for (ends reading) = read.Over reading

-- Over hears nothing more.
abbrev pub looked : Looking → ℕ → Script Reading → Looking
looked reader found (asks op next) = record reader { heard = found ∷ reader.heard }
looked reader found (ends reading) = reader

-- what the reader asks for next
abbrev pub op_by : LayoutData → Looking → ReadOp
op_by layout reader = looks_for (look_of layout reader)

-- the reader after this answer
abbrev pub answered : LayoutData → Looking → ℕ → Looking
answered layout reader found = looked reader found (look_of layout reader)

-- the load is on the board
abbrev pub LooksOnBoard : LayoutData → ReadOp → Type 0
LooksOnBoard layout (read.Load word) = word < length_of layout
LooksOnBoard layout (read.Over reading) = Unit {0}

-- the answer of a Load is admitted for its word
abbrev pub HeardAdmitted : JobData → LayoutData → ReadOp → ℕ → Type 0
HeardAdmitted job layout (read.Load word) found = Admits layout job word found
HeardAdmitted job layout (read.Over reading) found = Unit {0}

pub record LooksFit (job : JobData) (layout : LayoutData) (reader : Looking) : Type 0 where
  pub admitted : AllByRecursion (λ heard. HearsAdmitted job layout heard.0 heard.1)
      (heard_in (reader_script layout reader.cell) reader.heard)
