use Rattle.std.proofs.Common.{◌≡◌, length}
use Rattle.std.specs.List.{list_any}
use Rattle.text_lines.specs.Lines.{lines_of}
use Rattle.text_lines.specs.TextLines.{left_of}
use Rattle.exercise_text.specs.Sets.{is_settable_by}
use Rattle.exercise_text.proofs.set.is_set_in.Given as goal

-- the lines so far declare something else
abbrev pub invariant-loop-line : goal.invariant-loop-line
invariant-loop-line l = list_any (is_settable_by l.word) (lines_of l.header)
    ≡ list_any (is_settable_by l.word) (left_of l.lines)

abbrev pub decreases-loop-line : goal.decreases-loop-line
decreases-loop-line l = length (left_of l.lines)
