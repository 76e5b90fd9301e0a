use Rattle.std.proofs.Common.{◌≡◌, ◌+◌, ◌≤◌, List, ℕ, length}
use Rattle.std.specs.Prelude.{count_by}
use Rattle.text_lines.specs.Lines.{is_filled, lines_of, words_of}
use Rattle.text_lines.specs.TextLines.{left_of, taken_of}
use Rattle.exercise_text.specs.Submissions.{after_code}
use Rattle.exercise_text.proofs.submission.code_lines.Given as goal

-- the lines so far and those to come are all that are counted
abbrev pub invariant-loop-line : goal.invariant-loop-line
invariant-loop-line l =
    (l.count + count_by (λ (line : List ℕ). is_filled (words_of line)) (left_of l.lines)
    ≡ count_by (λ (line : List ℕ). is_filled (words_of line)) (after_code (lines_of l.text)))
    × (l.count ≤ taken_of l.lines)

abbrev pub decreases-loop-line : goal.decreases-loop-line
decreases-loop-line l = length (left_of l.lines)
