use Rattle.std.proofs.Common.{◌≡◌, ◌++◌, length}
use Rattle.std.specs.Prelude.{map}
use Rattle.text_lines.specs.Lines.{words_of}
use Rattle.exercise_text.specs.Values.{array_start, wanted_by}
use Rattle.exercise_text.proofs.values.wanted_at_start.Given as goal

-- the names so far and those to come are all names
abbrev pub invariant-loop-word : goal.invariant-loop-word
invariant-loop-word l = l.wanted.items ++ map (wanted_by (array_start l.arrays)) (words_of l.rest)
    ≡ map (wanted_by (array_start l.arrays)) (words_of l.names)

abbrev pub decreases-loop-word : goal.decreases-loop-word
decreases-loop-word l = length (words_of l.rest)
