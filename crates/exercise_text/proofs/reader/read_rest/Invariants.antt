use Rattle.std.proofs.Common.{◌≡◌, length}
use Rattle.text_lines.specs.TextLines.{left_of, taken_of}
use Rattle.exercise_text.specs.Reading.{exercise_after, no_entry}
use Rattle.exercise_text.proofs.reader.read_rest.Given as goal

abbrev pub invariant-loop-line : goal.invariant-loop-line
invariant-loop-line l =
    exercise_after no_entry (taken_of l.fn.lines) (left_of l.fn.lines)
    ≡ exercise_after l.draft (taken_of l.lines) (left_of l.lines)

abbrev pub decreases-loop-line : goal.decreases-loop-line
decreases-loop-line l = length (left_of l.lines)
