use Rattle.std.proofs.Common.{◌≡◌, length}
use Rattle.std.specs.Prelude.{find}
use Rattle.text_lines.specs.Lines.{lines_of, words_of}
use Rattle.exercise_text.specs.Sets.{sets_none}
use Rattle.exercise_text.proofs.set.unknown_among.Given as goal

-- the words so far set names that the header declares
abbrev pub invariant-loop-word : goal.invariant-loop-word
invariant-loop-word l = find (sets_none (lines_of l.header)) (words_of l.words)
    ≡ find (sets_none (lines_of l.header)) (words_of l.left)

abbrev pub decreases-loop-word : goal.decreases-loop-word
decreases-loop-word l = length (words_of l.left)
