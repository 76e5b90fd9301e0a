use Rattle.std.proofs.Common.{◌≡◌, length}
use Rattle.std.specs.Prelude.{find}
use Rattle.text_lines.specs.Lines.{lines_of}
use Rattle.text_lines.specs.TextLines.{left_of}
use Rattle.exercise_text.specs.Submissions.{is_missing}
use Rattle.exercise_text.proofs.submission.missing_line.Given as goal

-- the lines so far are not missing
abbrev pub invariant-loop-line : goal.invariant-loop-line
invariant-loop-line l = find (is_missing (lines_of l.submission)) (lines_of l.given)
    ≡ find (is_missing (lines_of l.submission)) (left_of l.lines)

abbrev pub decreases-loop-line : goal.decreases-loop-line
decreases-loop-line l = length (left_of l.lines)
