use Rattle.std.proofs.Common.{◌≡◌, ◌++◌, ◌∷◌, [], List, ℕ, length}
use Rattle.std.specs.List.{flat_map}
use Rattle.text_lines.specs.Lines.{lines_of, words_of}
use Rattle.text_lines.specs.TextLines.{left_of}
use Rattle.exercise_text.specs.Sets.{line_as_input}
use Rattle.exercise_text.proofs.set.set_text.Given as goal

-- the lines so far and those to come are all lines
abbrev pub invariant-loop-line : goal.invariant-loop-line
invariant-loop-line l =
    l.set.items ++ flat_map (λ (line : List ℕ).
    line_as_input l.sizes (words_of l.words) line ++ 10 ∷ []) (left_of l.lines)
    ≡ flat_map (λ (line : List ℕ). line_as_input l.sizes (words_of l.words) line ++ 10 ∷ [])
    (lines_of l.text)

abbrev pub decreases-loop-line : goal.decreases-loop-line
decreases-loop-line l = length (left_of l.lines)
