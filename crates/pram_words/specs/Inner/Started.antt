-- The words of a board while its start values are written over zeros.
use Rattle.std.specs.Prelude.{◌≡◌, ℕ, List, length, nat_lt, slice_index, if◌then◌else◌}
use Rattle.pram_words.specs.declared.words.Word.{Word}
use Rattle.pram_words.specs.declared.words.Word.TheVariants.{Position, Stored}
use Rattle.pram_words.specs.Words.{LayoutData, IsWord, number_of, length_of}
use Rattle.pram_words.specs.Ways.{first_leaf_in}

-- what a word has once the first workers have their positions, and the first places these values
abbrev pub word_started : LayoutData → ℕ → List ℕ → Word → ℕ
word_started layout workers values (Position worker) =
    if nat_lt worker workers then first_leaf_in layout worker else 0
word_started layout workers values (Stored place which) = slice_index values place
word_started layout workers values word = 0

-- the words of a whole board at that point
pub record HasStarted (layout : LayoutData) (workers : ℕ) (values words : List ℕ) : Type 0 where
  pub len : length words ≡ length_of layout
  pub each : (word : Word) → IsWord layout word →
      slice_index words (number_of layout word) ≡ word_started layout workers values word
