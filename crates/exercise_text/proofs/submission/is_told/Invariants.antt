use Rattle.std.proofs.Common.{◌≡◌, length}
use Rattle.std.specs.List.{list_any}
use Rattle.text_lines.specs.Lines.{lines_of}
use Rattle.text_lines.specs.TextLines.{left_of}
use Rattle.exercise_text.specs.LineKeys.{has_line_key}
use Rattle.exercise_text.proofs.submission.is_told.Given as goal

-- the lines so far are told by something else
abbrev pub invariant-loop-line : goal.invariant-loop-line
invariant-loop-line l = list_any (has_line_key (l.word, l.name)) (lines_of l.text)
    ≡ list_any (has_line_key (l.word, l.name)) (left_of l.lines)

abbrev pub decreases-loop-line : goal.decreases-loop-line
decreases-loop-line l = length (left_of l.lines)
