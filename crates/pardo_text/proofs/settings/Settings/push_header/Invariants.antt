use Rattle.std.proofs.Common.{◌≡◌, ◌++◌, ◌∷◌, [], List, ℕ, length}
use Rattle.std.specs.List.{flat_map}
use Rattle.text_lines.specs.Lines.{lines_of}
use Rattle.text_lines.specs.TextLines.{left_of}
use Rattle.pardo_text.specs.Settings.{before_code, settled_line}
use Rattle.pardo_text.proofs.settings.Settings.push_header.Given as goal

-- the lines so far and those to come are the lines before the code
abbrev pub invariant-loop-line : goal.invariant-loop-line
invariant-loop-line l =
    l.header.items ++ flat_map (λ (line : List ℕ). settled_line l.bare l.self line ++ 10 ∷ [])
    (before_code (left_of l.lines))
    ≡ l.fn.header.items ++ flat_map (λ (line : List ℕ). settled_line l.bare l.self line ++ 10 ∷ [])
    (before_code (lines_of l.text))

abbrev pub decreases-loop-line : goal.decreases-loop-line
decreases-loop-line l = length (left_of l.lines)
