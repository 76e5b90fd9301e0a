-- The lines of a text, taken one after another.
use Rattle.std.specs.Prelude.{◌≡◌, ℕ, ◌+◌, List, [], ◌∷◌, Option, Some, None}
use Rattle.std.specs.Borrow.{Bor}
use Rattle.text_lines.specs.declared.text_lines.TextLines.{TextLines}
use Rattle.text_lines.specs.LinesAfter.{lines_after}

-- the lines that are left
abbrev pub left_of : TextLines → List (List ℕ)
left_of lines = lines_after lines.rest

-- how many were taken
abbrev pub taken_of : TextLines → ℕ
taken_of lines = lines.taken

-- The first line that is left is taken, if there is one.
abbrev pub TakesLine : TextLines → Option (Bor (List ℕ)) → TextLines → Type 0
TakesLine old None new = (left_of old ≡ []) × (left_of new ≡ []) × (taken_of new ≡ taken_of old)
TakesLine old (Some line) new =
    (left_of old ≡ line.now ∷ left_of new) × (taken_of new ≡ taken_of old + 1)
