use Rattle.std.proofs.Common.{◌≡◌, length}
use Rattle.text_lines.specs.Lines.{words_of}
use Rattle.exercise_text.specs.Sets.{input_set_to}
use Rattle.exercise_text.proofs.set.set_to.Given as goal

-- the words so far set other names
abbrev pub invariant-loop-word : goal.invariant-loop-word
invariant-loop-word l = input_set_to (words_of l.words) l.name ≡ input_set_to (words_of l.left) l.name

abbrev pub decreases-loop-word : goal.decreases-loop-word
decreases-loop-word l = length (words_of l.left)
