-- A text that is cut at its first line feed.
use Rattle.std.proofs.Common.{◌≡◌, ℕ, zero, suc, ◌+◌, ◌-◌, ◌<◌, ◌≤◌, ◌==◌}
use Rattle.std.proofs.Common.{Bool, true, false, List, [], ◌∷◌, length, take}
use Rattle.std.proofs.Common.{drop, slice_index, get_or, refl, ap, ◌∙◌, arith}
use Rattle.std.proofs.lemmas.List.Splits.{slice_split-cons_yes}
use Rattle.std.proofs.lemmas.List.Splits.{slice_split-cons_no, length-slice_split}
use Rattle.std.proofs.lemmas.List.Sums.{count_by-le-length}
use Rattle.std.proofs.lemmas.List.{take_all, drop-drop, length-drop}
use Rattle.std.specs.List.{onto_first}
use Rattle.text_lines.specs.Lines.{lines_of}

abbrev pub is_feed : ℕ → Bool
is_feed b = b == 10

not_true : (b : Bool) → (b ≡ true → ⊥) → b ≡ false
not_true true never = absurd (never refl)
not_true false never = refl

pub lines_none : (text : List ℕ) →
    ((k : ℕ) → k < length text → is_feed (slice_index text k) ≡ true → ⊥) →
    lines_of text ≡ text ∷ []
lines_none [] none = refl
lines_none (x ∷ xs) none =
    slice_split-cons_no is_feed x xs (not_true _ (none 0 (omega arith)))
    ∙ ap (onto_first x) (lines_none xs (λ k low. none (suc k) (omega arith)))

pub lines_some : (text : List ℕ) (k : ℕ) → k < length text → is_feed (slice_index text k) ≡ true →
    ((j : ℕ) → j < k → is_feed (slice_index text j) ≡ true → ⊥) →
    lines_of text ≡ take k text ∷ lines_of (drop (suc k) text)
lines_some (x ∷ xs) zero low is before = slice_split-cons_yes is_feed x xs is
lines_some (x ∷ xs) (suc k) low is before =
    slice_split-cons_no is_feed x xs (not_true _ (before 0 (omega arith)))
    ∙ ap (onto_first x) (lines_some xs k (omega arith) is (λ j less. before (suc j) (omega arith)))
lines_some [] k low is before = absurd (omega arith)

-- what is after the line feed at index k
pub after_feed : (text : List ℕ) (k : ℕ) → k < length text →
    take (length (drop k text) - 1) (drop 1 (drop k text)) ≡ drop (suc k) text
after_feed text k low =
    take_all _ _ (let e = length-drop 1 (drop k text) in omega arith) ∙ drop-drop 1 k text
    ∙ ap (λ (n : ℕ). drop n text) (let e : k + 1 ≡ suc k = omega arith in e)

-- The line that comes next is the first of those that are left.
pub at_front : (lines : List (List ℕ)) (n : ℕ) (line : List ℕ) (rest : List (List ℕ)) →
    drop n lines ≡ line ∷ rest →
    (n < length lines) × (line ≡ get_or lines n []) × (drop (suc n) lines ≡ rest)
at_front [] zero line rest e = absurd (cc)
at_front [] (suc n) line rest e = absurd (cc)
at_front (x ∷ xs) zero line rest e = (omega arith, cc, cc)
at_front (x ∷ xs) (suc n) line rest e =
    let h = at_front xs n line rest e in (omega (arith, h.0), h.1, h.2)

pub none_left : (lines : List (List ℕ)) (n : ℕ) → n ≤ length lines →
    drop n lines ≡ [] → n ≡ length lines
none_left lines n most e =
    let l = length-drop n lines in
    let k : length (drop n lines) ≡ 0 = ap length e in omega (arith, l, k)

pub lines_few : (text : List ℕ) → length (lines_of text) ≤ length text + 1
lines_few text =
    let e = length-slice_split is_feed text in
    let most = count_by-le-length is_feed text in omega (arith, e, most)
