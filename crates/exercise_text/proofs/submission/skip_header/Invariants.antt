use Rattle.std.proofs.Common.{◌≡◌, length}
use Rattle.text_lines.specs.TextLines.{left_of}
use Rattle.exercise_text.specs.Submissions.{after_code}
use Rattle.exercise_text.proofs.submission.skip_header.Given as goal

-- the lines so far are not `code`
abbrev pub invariant-loop-line : goal.invariant-loop-line
invariant-loop-line l = after_code (left_of l.fn.lines) ≡ after_code (left_of l.lines)

abbrev pub decreases-loop-line : goal.decreases-loop-line
decreases-loop-line l = length (left_of l.lines)
