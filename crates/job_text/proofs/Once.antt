-- Arrays, each once, with one array more.
use Rattle.std.proofs.Common.{◌≡◌, ℕ, Bool, true, false, ◌&&◌, ◌||◌, ◌==◌, if◌then◌else◌}
use Rattle.std.proofs.Common.{List, [], ◌∷◌, ◌++◌, filter, refl, sym, ap, ap₂, subst, ◌∙◌}
use Rattle.std.proofs.Common.{⊎_elim, append-nil, nat_cmp, cond, arith, ◌+◌, ◌<◌, length, take}
use Rattle.std.proofs.Common.{get_or}
use Rattle.std.specs.BTreeSet.{BTreeSet, contains, Updates}
use Rattle.std.specs.List.{list_any}
use Rattle.std.specs.Ordering.{is_eq, ordering_then}
use Rattle.std.proofs.Common.{Ordering}
use Rattle.std.specs.Cmp.{tied_then}
use Rattle.std.proofs.lemmas.Bool.{cases_Bool, cond-true, cond-false, not_from_true}
use Rattle.std.proofs.lemmas.Bool.{not_from_false}
use Rattle.std.proofs.lemmas.Grind.{flat_map-append}
use Rattle.std.proofs.lemmas.List.{take_more}
use Rattle.std.proofs.lemmas.List.Elements.{filter-append}
use Rattle.std.proofs.lemmas.List.Folds.{list_any-append}
use Rattle.pram_job.specs.declared.instr.Array.{Array}
use Rattle.job_text.specs.Inner.Printing.{with_new_array}
use Rattle.pram_job.specs.declared.instr.Instr.{Instr}
use Rattle.pram_job.specs.Instructions.{row_of}
use Rattle.job_text.specs.Printed.{arrays_in, is_same, once, operand_arrays}
use Rattle.job_text.proofs.Naming.{is_same-true, other_than}

-- whether this array is among them
abbrev among : Array → List Array → Bool
among a arrays = list_any (λ other. is_same other a) arrays

module _ (x a : Array) (apart : is_same x a ≡ false) where
  -- it is among those that are not another one
  among_others : (arrays : List Array) →
      among a (filter (other_than x) arrays) ≡ among a arrays
  among_others [] = refl
  among_others (c ∷ arrays) =
      let more = among_others arrays in
      let kept = filter (other_than x) arrays in
      ⊎_elim
      (λ e. ap (among a) (cond-false (other_than x c) (c ∷ kept) kept
      (not_from_true (is_same x c) e))
      ∙ more ∙ sym (ap (λ b. b || among a arrays)
      (subst (λ d. is_same d a ≡ false) (is_same-true x c e) apart)))
      (λ e. ap (among a) (cond-true (other_than x c) (c ∷ kept) kept
      (not_from_false (is_same x c) e))
      ∙ ap (λ b. is_same c a || b) more)
      (cases_Bool (is_same x c))

-- what is added of an array
abbrev added : Bool → Array → List Array
added known a = if known then [] else a ∷ []

filter_one : (x a : Array) (known : Bool) → is_same x a ≡ true →
    filter (other_than x) (added known a) ≡ []
filter_one x a true e = refl
filter_one x a false e =
    cond-false (other_than x a) (a ∷ []) [] (not_from_true (is_same x a) e)

filter_other : (x a : Array) (known : Bool) → is_same x a ≡ false →
    filter (other_than x) (added known a) ≡ added known a
filter_other x a true e = refl
filter_other x a false e =
    cond-true (other_than x a) (a ∷ []) [] (not_from_false (is_same x a) e)

pub once-push : (arrays : List Array) (a : Array) →
    once (arrays ++ a ∷ []) ≡ with_new_array (once arrays) a
once-push [] a = refl
once-push (x ∷ arrays) a =
    let kept = filter (other_than x) (once arrays) in
    let known = among a (once arrays) in
    ap (λ ls. x ∷ filter (other_than x) ls) (once-push arrays a)
    ∙ ap (λ ls. x ∷ ls) (filter-append (other_than x) (once arrays) (added known a))
    ∙ ⊎_elim
    (λ e. ap (λ ls. x ∷ (kept ++ ls)) (filter_one x a known e)
    ∙ ap (λ b. x ∷ (kept ++ added (b || among a kept) a)) (sym e))
    (λ e. ap (λ ls. x ∷ (kept ++ ls)) (filter_other x a known e)
    ∙ ap (λ b. x ∷ (kept ++ added b a)) (sym (among_others x a e (once arrays)))
    ∙ ap (λ b. x ∷ (kept ++ added (b || among a kept) a)) (sym e))
    (cases_Bool (is_same x a))

-- ---- arrays that are known by their numbers

same_number : (m n : ℕ) → is_eq (nat_cmp m n) ≡ (m == n)
same_number m n = grind arith

abbrev pub pair_cmp : ℕ × ℕ → ℕ × ℕ → Ordering
pair_cmp x y = ordering_then (nat_cmp x.0 y.0) (nat_cmp x.1 y.1)

same_pair : (a b : Array) →
    is_eq (pair_cmp (a.base, a.len) (b.base, b.len)) ≡ is_same a b
same_pair a b = sym (tied_then (nat_cmp a.base b.base) (nat_cmp a.len b.len))
    ∙ ap₂ (λ p q. p && q) (same_number a.base b.base) (same_number a.len b.len)

one_more : (b c : Bool) → cond b true c ≡ (c || (b || false))
one_more true true = refl
one_more true false = refl
one_more false true = refl
one_more false false = refl

-- one more is known
pub known-push : (old new : BTreeSet (ℕ × ℕ)) (arrays : List Array) (a : Array) →
    ((b : Array) → contains pair_cmp old (b.base, b.len) ≡ among b arrays) →
    Updates pair_cmp old new (a.base, a.len) true →
    (b : Array) → contains pair_cmp new (b.base, b.len) ≡ among b (arrays ++ a ∷ [])
known-push old new arrays a known h b =
    h.0 (b.base, b.len)
    ∙ ap₂ (λ p q. cond p true q) (same_pair a b) (known b)
    ∙ one_more (is_same a b) (among b arrays)
    ∙ sym (list_any-append (λ other. is_same other b) arrays (a ∷ []))

-- ---- the arrays of instructions, one more

pub arrays-push : (code : List Instr) (k : ℕ) (d : Instr) → k < length code →
    arrays_in (take (k + 1) code)
    ≡ arrays_in (take k code) ++ operand_arrays (row_of (get_or code k d)).1
arrays-push code k d low =
    ap arrays_in (take_more code k d low)
    ∙ flat_map-append (λ instr. operand_arrays (row_of instr).1) (take k code)
    (get_or code k d ∷ [])
    ∙ ap (λ more. arrays_in (take k code) ++ more)
    (append-nil (operand_arrays (row_of (get_or code k d)).1))

-- an instruction with an array, and one without
pub once_step : (code : List Instr) (k : ℕ) (d : Instr) (old new : List Array) (a : Array) →
    k < length code → a ∷ [] ≡ operand_arrays (row_of (get_or code k d)).1 →
    old ≡ once (arrays_in (take k code)) → new ≡ with_new_array old a →
    new ≡ once (arrays_in (take (k + 1) code))
once_step code k d old new a low has so now =
    now ∙ ap (λ arrays. with_new_array arrays a) so
    ∙ sym (once-push (arrays_in (take k code)) a)
    ∙ sym (ap once (arrays-push code k d low
    ∙ ap (λ more. arrays_in (take k code) ++ more) (sym has)))

pub once_stays : (code : List Instr) (k : ℕ) (d : Instr) (old : List Array) →
    k < length code → [] ≡ operand_arrays (row_of (get_or code k d)).1 →
    old ≡ once (arrays_in (take k code)) → old ≡ once (arrays_in (take (k + 1) code))
once_stays code k d old low has so =
    so ∙ sym (ap once (arrays-push code k d low
    ∙ ap (λ more. arrays_in (take k code) ++ more) (sym has)
    ∙ append-nil (arrays_in (take k code))))
