-- What an atomic step does to the words, and what it answers.
use Rattle.std.specs.Prelude.{ℕ, ◌==◌, max, List, slice_index, slice_set}
use prog.Atomic.{either}
use Rattle.walkx.specs.declared.operation.Op.{Op}
use Rattle.walkx.specs.declared.operation.Op.TheVariants.{Load, Store, Max, Swap, Over}

-- the words after an atomic step
abbrev pub words_after : List ℕ → Op → List ℕ
words_after words (Load word) = words
words_after words (Store word value) = slice_set words word value
words_after words (Max word value) = slice_set words word (max (slice_index words word) value)
words_after words (Swap word old new) =
    slice_set words word (either (slice_index words word == old) new (slice_index words word))
words_after words (Over ended) = words

-- what it answers: the word as it was, but for a store
abbrev pub answer : List ℕ → Op → ℕ
answer words (Load word) = slice_index words word
answer words (Store word value) = 0
answer words (Max word value) = slice_index words word
answer words (Swap word old new) = slice_index words word
answer words (Over ended) = 0
