-- Cells that are cut at the first one that holds 0.
use Rattle.std.proofs.Common.{◌≡◌, ℕ, ◌+◌, ◌-◌, ◌<◌, ◌≤◌, ◌==◌}
use Rattle.std.proofs.Common.{List, [], ◌∷◌, length, take, drop, Some, None, nat_lt, suc}
use Rattle.std.proofs.Common.{refl, sym, ap, ap₂, ◌∙◌, ⊎_elim, arith}
use Rattle.std.specs.List.{onto_first, position, position_or_len, slice_split}
use Rattle.std.proofs.lemmas.Bool.{cases_Bool, ltb-true, ltb-false}
use Rattle.std.proofs.lemmas.List.Splits.{slice_split-cons_no, slice_split_first}
use Rattle.text_lines.proofs.Splitting.{after_feed}

record FoundAt (cells : List ℕ) (end : ℕ) : Type 0 where
  low : end < length cells
  at : position_or_len (λ value. value == 0) cells ≡ end

found_at : (cells : List ℕ) (end : ℕ) → position (λ value. value == 0) cells ≡ Some end →
    FoundAt cells end
found_at cells end e =
    let p = position_or_len (λ value. value == 0) cells in
    ⊎_elim
    (λ low. let here : Some p ≡ Some end = rw low at e in
    let same : p ≡ end = cc in
    record { low = omega (arith, same, ltb-true p (length cells) low); at = same })
    (λ high. let none : None ≡ Some end = rw high at e in cc)
    (cases_Bool (nat_lt p (length cells)))

not_found : (cells : List ℕ) → position (λ value. value == 0) cells ≡ None →
    length cells ≤ position_or_len (λ value. value == 0) cells
not_found cells e =
    let p = position_or_len (λ value. value == 0) cells in
    ⊎_elim (λ low. let some : Some p ≡ None = rw low at e in cc)
    (λ high. ltb-false p (length cells) high)
    (cases_Bool (nat_lt p (length cells)))

one_run : (cells : List ℕ) → length cells ≤ position_or_len (λ value. value == 0) cells →
    slice_split (λ value. value == 0) cells ≡ cells ∷ []
one_run [] far = refl
one_run (v ∷ cells) far = ⊎_elim
    (λ e. let none : suc (length cells) ≤ 0 = rw e at far in absurd (omega (arith, none)))
    (λ e. let more : suc (length cells) ≤ 1 + position_or_len (λ value. value == 0) cells =
    rw e at far in
    slice_split-cons_no (λ value. value == 0) v cells e
    ∙ ap (onto_first v) (one_run cells (omega (arith, more))))
    (cases_Bool (v == 0))

pub runs_none : (cells : List ℕ) → position (λ value. value == 0) cells ≡ None →
    slice_split (λ value. value == 0) cells ≡ cells ∷ []
runs_none cells e = one_run cells (not_found cells e)

pub runs_some : (cells front back : List ℕ) (end : ℕ) →
    position (λ value. value == 0) cells ≡ Some end → front ≡ take end cells →
    back ≡ drop end cells → slice_split (λ value. value == 0) cells
    ≡ front ∷ slice_split (λ value. value == 0) (take (length back - 1) (drop 1 back))
runs_some cells front back end e before after =
    let found = found_at cells end e in
    let next : end + 1 ≡ suc end = omega arith in
    slice_split_first (λ value. value == 0) cells 0 (omega (arith, found.low, found.at))
    ∙ ap (λ n. take n cells ∷ slice_split (λ value. value == 0) (drop (n + 1) cells)) found.at
    ∙ ap₂ (λ xs ys. xs ∷ slice_split (λ value. value == 0) ys) (sym before)
    (ap (λ n. drop n cells) next
    ∙ sym (ap (λ bs. take (length bs - 1) (drop 1 bs)) after ∙ after_feed cells end found.low))
