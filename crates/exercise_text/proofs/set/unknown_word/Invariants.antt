use Rattle.std.proofs.Common.{◌≡◌, length}
use Rattle.text_lines.specs.Lines.{words_of}
use Rattle.exercise_text.specs.Sets.{unknown_word}
use Rattle.exercise_text.proofs.set.unknown_word.Given as goal

-- the words so far set names that the header declares
abbrev pub invariant-loop-word : goal.invariant-loop-word
invariant-loop-word l =
    unknown_word l.header (words_of l.words) ≡ unknown_word l.header (words_of l.left)

abbrev pub decreases-loop-word : goal.decreases-loop-word
decreases-loop-word l = length (words_of l.left)
