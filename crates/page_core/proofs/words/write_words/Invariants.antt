use Rattle.std.proofs.Common.{◌≡◌, ℕ, ◌<◌, slice_get, Some}
use Rattle.pram_words.specs.Words.{length_of}
use Rattle.page_core.specs.Findings.{IsKeptBehind}
use Rattle.page_core.specs.Scenes.{word_in}
use Rattle.page_core.proofs.words.write_words.Given as goal

abbrev pub invariant-loop-k : goal.invariant-loop-k
invariant-loop-k l = record {
  words : (i : ℕ) → i < l.k → slice_get l.rows i ≡ Some (word_in l.world.layout l.world.words i);
  behind : IsKeptBehind (length_of l.world.layout) l.fn.rows l.rows;
}
