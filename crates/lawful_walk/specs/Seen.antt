-- What a record shows.
use Rattle.std.specs.Prelude.{◌≡◌, ◌≢◌, ◌⊎◌, ℕ, suc, ◌+◌, ◌*◌, ◌≤◌, [], ◌∷◌}
use Rattle.pram_words.specs.Words.{LayoutData, IsWord, number_of}
use Rattle.pram_words.specs.declared.words.Word.{Word}
use Rattle.pram_words.specs.declared.words.Word.TheVariants.{Conflict, Node, Stored}
use Rattle.pram_words.specs.Stamps.{stamp_of}
use Rattle.walkx.specs.declared.operation.Op.{Op}
use Rattle.walkx.specs.declared.operation.Op.TheVariants.{Load, Store, Max, Swap, Over}
use Rattle.walkx.specs.Records.{Record, empty, after, both, Has}

-- the answer of the operation is what the word of this number held
abbrev pub Hears : Op → ℕ → Type 0
Hears (Load number) word = number ≡ word
Hears (Store number value) word = ⊥
Hears (Max number value) word = number ≡ word
Hears (Swap number old new) word = number ≡ word
Hears (Over end) word = ⊥

-- the record heard this from a word, and, in the second form, then that from another one
pub record Heard (layout : LayoutData) (past : Record) (word : Word) (found : ℕ) : Type 0 where
  pub op : Op
  pub hears : Hears op (number_of layout word)
  pub has : Has past ((op, found) ∷ [])

pub record HeardThen (layout : LayoutData) (past : Record) (word : Word) (first : ℕ)
    (other : Word) (second : ℕ) : Type 0 where
  pub op : Op
  pub next : Op
  pub hears : Hears op (number_of layout word)
  pub hears_next : Hears next (number_of layout other)
  pub has : Has past ((next, second) ∷ (op, first) ∷ [])

-- The record shows that step t is finished: it heard the root as a later phase than those of step
-- t; or as the last one of step t, and word 0 after it as no conflict of that step; or, of step 0,
-- the root as 0.
abbrev pub Shows : LayoutData → Record → ℕ → Type 0
Shows layout past t = ((root : ℕ) × (3 * t + 1 ≤ root) × Heard layout past (Node 1) root)
    ⊎ (((conflict : ℕ) × (conflict ≢ t) × HeardThen layout past (Node 1) (3 * t) Conflict conflict)
    ⊎ ((t ≡ 0) × Heard layout past (Node 1) 0))

-- it knows step t: it shows it, or heard the stamp t + 1 from a word of a place
abbrev pub KnowsStep : LayoutData → Record → ℕ → Type 0
KnowsStep layout past t = Shows layout past t
    ⊎ ((place : ℕ) × (which : ℕ) × (found : ℕ)
    × IsWord layout (Stored place which) × (stamp_of found ≡ suc t)
    × Heard layout past (Stored place which) found)

-- a record that begins with another, in each of its parts
abbrev pub BeginsWith : Record → Record → Type 0
BeginsWith first empty = empty ≡ first
BeginsWith first (after past op found) = (after past op found ≡ first) ⊎ BeginsWith first past
BeginsWith first (both past other) =
    (both past other ≡ first) ⊎ (BeginsWith first past × BeginsWith first other)
