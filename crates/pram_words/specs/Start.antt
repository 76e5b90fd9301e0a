-- The words that a board starts with.
use Rattle.std.specs.Prelude.{◌≡◌, ℕ, List, map, slice_index}
use Rattle.std.specs.List.{range_with_len}
use Rattle.pram_job.specs.Job.{JobData}
use Rattle.pram_words.specs.declared.words.Word.{Word}
use Rattle.pram_words.specs.declared.words.Word.TheVariants.{Conflict, Node, Asked, Position}
use Rattle.pram_words.specs.declared.words.Word.TheVariants.{Stored, Claim, Spare}
use Rattle.pram_words.specs.Words.{LayoutData, IsWord, IsAdmitted, number_of, length_of, word_at}
use Rattle.pram_words.specs.Ways.{first_leaf_in}

-- what a word starts with: a cell's words have stamp 0 and its start value, a register's and a
-- counter's 0
abbrev pub start_of : LayoutData → JobData → Word → ℕ
start_of layout job Conflict = 0
start_of layout job (Node node) = 0
start_of layout job (Asked i j) = 0
start_of layout job (Position worker) = first_leaf_in layout worker
start_of layout job (Stored place which) = slice_index job.init place
start_of layout job (Claim cell) = 0
start_of layout job (Spare number) = 0

unfoldable pub start_words : LayoutData → JobData → List ℕ
start_words layout job = map (λ number. start_of layout job (word_at layout number))
    (range_with_len 0 (length_of layout))

-- a board's first words: each has its start value, and may have it
pub record StartsAdmitted (layout : LayoutData) (job : JobData) : Type 0 where
  pub values : (word : Word) → IsWord layout word →
      slice_index (start_words layout job) (number_of layout word) ≡ start_of layout job word
  pub admitted : IsAdmitted layout job (start_words layout job)
