-- Cells by the arrays that have them.
use Rattle.std.proofs.Common.{◌≡◌, ℕ, zero, suc, ◌+◌, ◌<◌, ◌≤◌, ◌^◌, List, ◌∷◌, ◌++◌, true, get_or}
use Rattle.std.proofs.Common.{length, refl, ap₂, codes, decimal}
use Rattle.std.proofs.Common.{drop, sym, ap, inl, inr, ◌∙◌, arith, drop-cons, min}
use Rattle.std.proofs.lemmas.Bool.{cases_lt}
use Rattle.std.proofs.lemmas.List.{get_or_past}
use Rattle.pardo_program.specs.Program.{ArrayData}
use Rattle.pardo_job.specs.Printed.{cell_text, has_cell, place_text, values_text}

-- past the cells there are zeros
pub far_cell : (cells : List ℕ) (a b : ℕ) → length cells < 2 ^ 63 →
    b ≡ min a 18446744073709551615 → get_or cells b 0 ≡ get_or cells a 0
far_cell cells a b few is = elim (cases_lt a 18446744073709551616) [
  | inl near ↦
      let same : b ≡ a = omega arith in
      ap (λ (k : ℕ). get_or cells k 0) same
  | inr far ↦
      let past : length cells ≤ b = omega arith in
      let past_too : length cells ≤ a = omega arith in
      get_or_past cells b 0 past ∙ sym (get_or_past cells a 0 past_too)
]

cell_in : (held : ArrayData) (arrays : List ArrayData) (cell : ℕ) → has_cell held cell ≡ true →
    cell_text (held ∷ arrays) cell ≡ place_text held cell
cell_in held arrays cell has = rw has

-- the first array that has a cell names it
pub cell_here : (arrays : List ArrayData) (k cell : ℕ) (held : ArrayData) → k < length arrays →
    held ≡ get_or arrays k held → has_cell held cell ≡ true →
    cell_text (drop k arrays) cell ≡ cell_text arrays cell →
    cell_text arrays cell ≡ place_text held cell
cell_here arrays k cell held within at has so_far =
    let there : drop k arrays ≡ held ∷ drop (suc k) arrays =
    drop-cons arrays k held within ∙ ap (λ (x : ArrayData). x ∷ drop (suc k) arrays) (sym at) in
    sym so_far ∙ ap (λ (l : List ArrayData). cell_text l cell) there
    ∙ cell_in held (drop (suc k) arrays) cell has

-- a first cell past all cells serves as well
far_first : (cells : List ℕ) (a b k : ℕ) → length cells < 2 ^ 63 →
    b ≡ min a 18446744073709551615 → get_or cells (b + k) 0 ≡ get_or cells (a + k) 0
far_first cells a b k few is = elim (cases_lt a 18446744073709551616) [
  | inl near ↦
      let same : b + k ≡ a + k = omega arith in
      ap (λ (n : ℕ). get_or cells n 0) same
  | inr far ↦
      let past : length cells ≤ b + k = omega arith in
      let past_too : length cells ≤ a + k = omega arith in
      get_or_past cells (b + k) 0 past ∙ sym (get_or_past cells (a + k) 0 past_too)
]

values_alike : (cells : List ℕ) (a b count : ℕ) →
    ((k : ℕ) → get_or cells (b + k) 0 ≡ get_or cells (a + k) 0) →
    values_text (λ cell. get_or cells cell 0) b count
    ≡ values_text (λ cell. get_or cells cell 0) a count
values_alike cells a b zero same = refl
values_alike cells a b (suc count) same =
    let at : ℕ → ℕ = λ n. get_or cells n 0 in
    let b0 : b ≡ b + 0 = omega arith in
    let a0 : a + 0 ≡ a = omega arith in
    let here : at b ≡ at a = ap at b0 ∙ same 0 ∙ ap at a0 in
    ap₂ (λ (v : ℕ) (rest : List ℕ). (codes " " ++ decimal v) ++ rest) here
    (values_alike cells (a + 1) (b + 1) count
    (λ k. ap at (let e : b + 1 + k ≡ b + (k + 1) = omega arith in e) ∙ same (k + 1)
    ∙ ap at (let e : a + (k + 1) ≡ a + 1 + k = omega arith in e)))

-- the values of a row, whose first cell was worked out so
pub row_values : (cells : List ℕ) (base product sum first count : ℕ) → length cells < 2 ^ 63 →
    sum ≡ min product 18446744073709551615 → first ≡ min (base + sum) 18446744073709551615 →
    values_text (λ cell. get_or cells cell 0) first count
    ≡ values_text (λ cell. get_or cells cell 0) (base + product) count
row_values cells base product sum first count few is is_first =
    let same : first ≡ min (base + product) 18446744073709551615 = omega arith in
    values_alike cells (base + product) first count
    (λ k. far_first cells (base + product) first k few same)
