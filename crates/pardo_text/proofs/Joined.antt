-- Lines that are joined.
use Rattle.std.proofs.Common.{◌≡◌, ℕ, List, [], ◌∷◌, ◌++◌, refl, ap}
use Rattle.std.proofs.Common.{append-nil}
use Rattle.std.specs.List.{join_with_byte}
use Rattle.pardo_text.specs.Inner.Settings.{parted_lines}

after_feeds : (line : List ℕ) (lines : List (List ℕ)) →
    parted_lines (10 ∷ []) (line ∷ lines) ≡ 10 ∷ join_with_byte 10 (line ∷ lines)
after_feeds line [] = ap (λ (l : List ℕ). 10 ∷ l) (append-nil line)
after_feeds line (next ∷ lines) = ap (λ (l : List ℕ). 10 ∷ line ++ l) (after_feeds next lines)

-- lines after line feeds, but for the first, are the lines with line feeds between them
pub parted_lines-joined : (lines : List (List ℕ)) →
    parted_lines [] lines ≡ join_with_byte 10 lines
parted_lines-joined [] = refl
parted_lines-joined (line ∷ []) = append-nil line
parted_lines-joined (line ∷ next ∷ lines) = ap (λ (l : List ℕ). line ++ l) (after_feeds next lines)
