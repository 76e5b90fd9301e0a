-- The parts of a list.
use Rattle.std.proofs.Common.{◌≡◌, ◌∙◌, ℕ, zero, suc, ◌+◌, ◌<◌, ◌≤◌, ◌==◌, ◌&&◌, Bool, true, false}
use Rattle.std.proofs.Common.{not, if◌then◌else◌, List, [], ◌∷◌, refl, sym, ap, arith, length, take}
use Rattle.std.proofs.Common.{drop, get_or, subst}
use Rattle.std.specs.List.{onto_first}
use Rattle.std.proofs.lemmas.Bool.{eqb-true}
use Rattle.command_data.specs.CellLists.{cut, open_after, part_at, part_len}

both_first : (a b : Bool) → (a && b) ≡ true → a ≡ true
both_first true b e = refl
both_first false b e = absurd (let no : false ≡ true = e in cc)

-- no comma parts the text
pub whole : (inside : Bool) (text : List ℕ) → length text ≤ part_len inside text →
    cut inside text ≡ text ∷ []
whole inside [] le = refl
whole inside (byte ∷ bytes) le =
    by_test ((byte == 44) && not inside) (whole (open_after inside byte) bytes) le
  where
    by_test : (t : Bool) →
        (length bytes ≤ part_len (open_after inside byte) bytes →
        cut (open_after inside byte) bytes ≡ bytes ∷ []) →
        suc (length bytes) ≤ (if t then 0 else part_len (open_after inside byte) bytes + 1) →
        (if t then [] ∷ cut false bytes else onto_first byte (cut (open_after inside byte) bytes))
        ≡ (byte ∷ bytes) ∷ []
    by_test true more le = absurd (omega (arith, le))
    by_test false more le = ap (onto_first byte) (more (omega (arith, le)))

-- a comma does
pub parted : (inside : Bool) (text : List ℕ) → part_len inside text < length text →
    (get_or text (part_len inside text) 0 ≡ 44)
    × (cut inside text ≡ take (part_len inside text) text
    ∷ cut false (drop (part_len inside text + 1) text))
parted inside [] lt = absurd (omega (arith, lt))
parted inside (byte ∷ bytes) lt =
    by_test ((byte == 44) && not inside) refl (parted (open_after inside byte) bytes) lt
  where
    Parted : (inside : Bool) (text : List ℕ) → Type 0
    Parted inside text = (get_or text (part_len inside text) 0 ≡ 44)
        × (cut inside text ≡ take (part_len inside text) text
        ∷ cut false (drop (part_len inside text + 1) text))

    by_test : (t : Bool) → ((byte == 44) && not inside) ≡ t →
        (part_len (open_after inside byte) bytes < length bytes →
        Parted (open_after inside byte) bytes) →
        (if t then 0 else part_len (open_after inside byte) bytes + 1) < suc (length bytes) →
        (get_or (byte ∷ bytes) (if t then 0 else part_len (open_after inside byte) bytes + 1) 0 ≡ 44)
        × ((if t then [] ∷ cut false bytes
        else onto_first byte (cut (open_after inside byte) bytes))
        ≡ take (if t then 0 else part_len (open_after inside byte) bytes + 1) (byte ∷ bytes)
        ∷ cut false (drop ((if t then 0 else part_len (open_after inside byte) bytes + 1) + 1)
        (byte ∷ bytes)))
    by_test true e more lt = (eqb-true byte 44 (both_first (byte == 44) (not inside) e), refl)
    by_test false e more lt =
        let n : ℕ = part_len (open_after inside byte) bytes in
        let rest = more (omega (arith, lt)) in
        let one : n + 1 ≡ suc n = omega arith in
        let two : n + 1 + 1 ≡ suc (n + 1) = omega arith in (
          ap (λ k. get_or (byte ∷ bytes) k 0) one ∙ rest.0,
          ap (onto_first byte) rest.1
              ∙ ap (λ k. take k (byte ∷ bytes) ∷ cut false (drop (n + 1) bytes)) (sym one)
              ∙ ap (λ k. take (n + 1) (byte ∷ bytes) ∷ cut false (drop k (byte ∷ bytes))) (sym two),
        )

-- one byte more
pub len_more : (inside : Bool) (text : List ℕ) (at : ℕ) → at < length text →
    ((get_or text at 0 == 44) && not inside) ≡ false →
    part_len inside (drop at text)
    ≡ part_len (open_after inside (get_or text at 0)) (drop (at + 1) text) + 1
len_more inside [] at lt e = absurd (omega (arith, lt))
len_more inside (byte ∷ bytes) zero lt e =
    ap (λ t. if t then 0 else part_len (open_after inside byte) bytes + 1) e
len_more inside (byte ∷ bytes) (suc at) lt e =
    let next : suc (at + 1) ≡ suc at + 1 = omega arith in
    subst (λ k. part_len inside (drop at bytes)
    ≡ part_len (open_after inside (get_or bytes at 0)) (drop k (byte ∷ bytes)) + 1) next
    (len_more inside bytes at (omega (arith, lt)) e)

pub len_here : (inside : Bool) (text : List ℕ) (at : ℕ) → at < length text →
    ((get_or text at 0 == 44) && not inside) ≡ true → part_len inside (drop at text) ≡ 0
len_here inside [] at lt e = absurd (omega (arith, lt))
len_here inside (byte ∷ bytes) zero lt e =
    ap (λ t. if t then 0 else part_len (open_after inside byte) bytes + 1) e
len_here inside (byte ∷ bytes) (suc at) lt e = len_here inside bytes at (omega (arith, lt)) e

-- the part of this number is the first one after so many
pub part_after : (parts left : List (List ℕ)) (at : ℕ) → left ≡ drop at parts →
    part_at left 0 ≡ part_at parts at
part_after parts left at e = ap (λ (l : List (List ℕ)). part_at l 0) e ∙ at_drop parts at
  where
    at_drop : (parts : List (List ℕ)) (at : ℕ) → part_at (drop at parts) 0 ≡ part_at parts at
    at_drop [] zero = refl
    at_drop [] (suc at) = refl
    at_drop (part ∷ parts) zero = refl
    at_drop (part ∷ parts) (suc at) = at_drop parts at
