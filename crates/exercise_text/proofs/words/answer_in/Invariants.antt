use Rattle.std.proofs.Common.{◌≡◌, length}
use Rattle.text_lines.specs.Lines.{words_of}
use Rattle.exercise_text.specs.Entries.{answer_of}
use Rattle.exercise_text.proofs.words.answer_in.Given as goal

-- the words so far are no arrow
abbrev pub invariant-loop-word : goal.invariant-loop-word
invariant-loop-word l = answer_of (words_of l.text) ≡ answer_of (words_of l.rest)

abbrev pub decreases-loop-word : goal.decreases-loop-word
decreases-loop-word l = length (words_of l.rest)
