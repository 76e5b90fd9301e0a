-- Which records the words bear out.
use Rattle.std.specs.Prelude.{◌≡◌, ℕ, List, [], ◌∷◌}
use Rattle.pram_job.specs.Job.{JobData}
use Rattle.pram_words.specs.Words.{LayoutData}
use Rattle.pram_words.specs.declared.layout.Form.{Form}
use Rattle.pram_words.specs.declared.layout.Form.TheVariants.{Compact, Wide}
use Rattle.pram_words.specs.declared.words.Word.{Word}
use Rattle.pram_words.specs.declared.words.Word.TheVariants.{Node}
use Rattle.walkx.specs.declared.operation.Op.{Op}
use Rattle.walkx.specs.Operations.{words_after, answer}
use Rattle.walkx.specs.Records.{Record, empty, after, both}
use Rattle.lawful_walk.specs.Board.{Stands, Grows}

-- the moment of a step: words that stood then gave this answer, and have grown to those of now;
-- Earlier holds of them
pub record Moment (job : JobData) (layout : LayoutData) (op : Op) (found : ℕ) (Earlier : List ℕ →
    Type 0) (now : List ℕ) : Type 0 where
  pub words : List ℕ
  pub stands : Stands job layout words
  pub heard : found ≡ answer words op
  pub grew : Grows layout words (words_after words op)
  pub since : Grows layout (words_after words op) now
  pub earlier : Earlier words

abbrev pub Backed : JobData → LayoutData → Record → List ℕ → Type 0
Backed job layout empty now = Unit {0}
Backed job layout (after past op found) now =
    Moment job layout op found (Backed job layout past) now
Backed job layout (both past other) now = Backed job layout past now × Backed job layout other now

-- standing words bear the record out
pub record WasBacked (job : JobData) (layout : LayoutData) (past : Record) : Type 0 where
  pub words : List ℕ
  pub stands : Stands job layout words
  pub backed : Backed job layout past words

-- each part of a joined record by itself
abbrev pub Sound : JobData → LayoutData → Record → Type 0
Sound job layout empty = Unit {0}
Sound job layout (after past op found) = WasBacked job layout (after past op found)
Sound job layout (both past other) = Sound job layout past × Sound job layout other

-- a record lengthened by steps, the newest first
abbrev pub afters : Record → List (Op × ℕ) → Record
afters past [] = past
afters past (step ∷ steps) = after (afters past steps) step.0 step.1

-- the word is none that a worker may still change when its phase is over: marks of the wide form
abbrev pub IsFixed : Form → Word → Type 0
IsFixed Compact word = Unit {0}
IsFixed (Wide grain) (Node node) = ⊥
IsFixed (Wide grain) _ = Unit {0}

-- a step that leaves standing words which have grown
pub record Keeps (job : JobData) (layout : LayoutData) (op : Op) (words : List ℕ) : Type 0 where
  pub stands : Stands job layout (words_after words op)
  pub grows : Grows layout words (words_after words op)
