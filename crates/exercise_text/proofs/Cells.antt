-- What the cells of an array hold, one after the other.
use Rattle.std.proofs.Common.{◌≡◌, ℕ, zero, suc, ◌+◌, ◌<◌, ◌≤◌, ◌^◌, ◌++◌, ◌∷◌, [], List, get_or}
use Rattle.std.proofs.Common.{length, map, min, refl, sym, ap, inl, inr, ◌∙◌, arith}
use Rattle.std.specs.List.{range_with_len}
use Rattle.std.proofs.lemmas.Bool.{cases_lt}
use Rattle.std.proofs.lemmas.List.{get_or_past, map-append}

-- past the cells there are zeros
pub far_cell : (cells : List ℕ) (a b : ℕ) → length cells < 2 ^ 63 →
    b ≡ min a 18446744073709551615 → get_or cells b 0 ≡ get_or cells a 0
far_cell cells a b few is = elim (cases_lt a 18446744073709551616) [
  | inl near ↦
      let same : b ≡ a = omega arith in
      ap (λ (k : ℕ). get_or cells k 0) same
  | inr far ↦
      let past : length cells ≤ b = omega arith in
      let past_too : length cells ≤ a = omega arith in
      get_or_past cells b 0 past ∙ sym (get_or_past cells a 0 past_too)
]

range_more : (first count last : ℕ) → first + count ≡ last →
    range_with_len first (count + 1) ≡ range_with_len first count ++ last ∷ []
range_more first zero last e = ap (λ (n : ℕ). n ∷ []) (omega (arith, e))
range_more first (suc count) last e =
    let same : suc count + 1 ≡ suc (count + 1) = omega arith in
    ap (range_with_len first) same
    ∙ ap (λ (l : List ℕ). first ∷ l) (range_more (first + 1) count last (omega (arith, e)))

-- one value more
pub values_more : (f : ℕ → ℕ) (values after : List ℕ) (n value : ℕ) →
    values ≡ map f (range_with_len 0 n) → after ≡ values ++ value ∷ [] → value ≡ f n →
    after ≡ map f (range_with_len 0 (n + 1))
values_more f values after n value so_far added is = added
    ∙ ap (λ (l : List ℕ). l ++ value ∷ []) so_far
    ∙ ap (λ (v : ℕ). map f (range_with_len 0 n) ++ v ∷ []) is
    ∙ sym (map-append f (range_with_len 0 n) (n ∷ []))
    ∙ ap (map f) (sym (range_more 0 n n (omega arith)))
