-- The list of what a worker writes of a processor's own is what gets a word in the step.
use Rattle.std.proofs.Common.{◌≡◌, ℕ, zero, suc, ◌<◌, ◌≤◌, Bool, true, false, List, [], ◌∷◌}
use Rattle.std.proofs.Common.{slice_index, refl, sym, ap, subst, ◌∙◌, inl, inr, lit<, arith}
use Rattle.std.specs.List.{AllByRecursion}
use Rattle.std.proofs.lemmas.Bool.{and_from, and_parts, cond_both, cond-true}
use Rattle.pram_job.specs.Job.{JobData, IsJob}
use Rattle.pram_machine.specs.Machine.{counter_place, register_place}
use Rattle.pram_machine.specs.declared.requests.Request.{Request}
use Rattle.pram_machine.specs.Instructions.{request_in}
use Rattle.pram_step.specs.Runs.{state_after}
use Rattle.pram_words.specs.declared.layout.Form.TheVariants.{Wide}
use Rattle.walk_memory.specs.declared.memo.Memo.{Memo}
use Rattle.walk_memory.specs.Memory.{IsTrueMemo, all_registers, own_after, settled_at, settles}
use Rattle.walk_memory.specs.Memory.{settles_in}
use Rattle.walkx.specs.Passes.{landings, lands_counter, lands_register, put_if, registers_landing}
use Rattle.lawful_walk.specs.Lands.{Lands, asked, own, owner}
use Rattle.lawful_walk.proofs.LandedOwn.{Due, counter_due, own_here}
use Rattle.lawful_walk.proofs.LandedOwn.{register_due, value_counter, value_register}
use Rattle.lawful_walk.proofs.Newest.{IsOwn, below_owner, own_is, own_place}

-- what holds of all of a list with one that is put where so

put_all : (P : ℕ × ℕ → Type 0) (so : Bool) (p v : ℕ) (others : List (ℕ × ℕ)) →
    (so ≡ true → P (p, v)) → AllByRecursion P others → AllByRecursion P (put_if so p v others)
put_all P true p v others one rest = (one refl, rest)
put_all P false p v others one rest = rest

put_parts : (P : ℕ × ℕ → Type 0) (so : Bool) (p v : ℕ) (others : List (ℕ × ℕ)) →
    AllByRecursion P (put_if so p v others) → (so ≡ true → P (p, v)) × AllByRecursion P others
put_parts P true p v others all = (λ e. all.0, all.1)
put_parts P false p v others all = (λ e. absurd (cc), all)

-- a place of its own gets this word
pub record MayLand (g : ℕ) (job : JobData) (x i p v : ℕ) : Type 0 where
  pub mine : IsOwn job i p
  pub lands : Lands (Wide g) job x p i v

module _ (g : ℕ) (job : JobData) (i x : ℕ) (limits : IsJob job) (proc : i < job.procs)
    (known : Memo) (is_true : IsTrueMemo job i known) (at : known.step ≡ x) where
  abbrev R : Request
  R = request_in job (state_after job x) i

  abbrev May : ℕ × ℕ → Type 0
  May w = MayLand g job x i w.0 w.1

  settles_same : settles_in job (suc x) known.settled known.own ≡ settles job x i
  settles_same = ap (λ (s : ℕ). settles_in job (suc x) s known.own)
      (is_true.settled ∙ ap (λ (t : ℕ). settled_at job t i) at)
      ∙ ap (settles_in job (suc x) (settled_at job x i))
      (own_here job i x limits proc known is_true at)

  may_land : (p v : ℕ) → IsOwn job i p → settles job x i ≡ true →
      Due job i x limits proc known is_true at p ≡ true →
      v ≡ slice_index (state_after job (suc x)) p → MayLand g job x i p v
  may_land p v mine does due value =
      let k = own_is job i p proc mine in
      let high = k.above in
      record {
        mine = mine;
        lands = own (λ low. omega (arith, low, high))
            (and_from _ _ (ap (settles job x) k.owner ∙ does) due) (sym k.owner) value;
      }

  may_register : settles job x i ≡ true → (r : ℕ) → r < 4 →
      lands_register job i known R r ≡ true →
      May (register_place job i r, slice_index (own_after job i known.own R).registers r)
  may_register does r low due = may_land (register_place job i r) _ (inl (r, low, refl)) does
      (sym (register_due job i x limits proc known is_true at r low) ∙ due)
      (value_register job i x limits proc known is_true at r low)

  may_counter : settles job x i ≡ true → lands_counter job known R ≡ true →
      May (counter_place job i, R.next)
  may_counter does due = may_land (counter_place job i) _ (inr refl) does
      (sym (counter_due job i x limits proc known is_true at) ∙ due)
      (value_counter job i x limits proc known is_true at)

  abbrev value : ℕ → ℕ
  value r = slice_index (own_after job i known.own R).registers r

  abbrev due : ℕ → Bool
  due r = lands_register job i known R r

  abbrev last : List (ℕ × ℕ)
  last = put_if (lands_counter job known R) (counter_place job i) R.next []

  abbrev from : List ℕ → List (ℕ × ℕ)
  from rs = registers_landing job i known R rs last

  -- each that a worker writes gets a word
  pub all_land : AllByRecursion May (landings job (suc x) i known R)
  all_land = cond_both (settles_in job (suc x) known.settled known.own) (from all_registers) []
      (AllByRecursion May) (λ settled. by (sym settles_same ∙ settled)) (λ rests. tt)
    where
      by : settles job x i ≡ true → AllByRecursion May (from all_registers)
      by does =
          put_all May (due 0) (register_place job i 0) (value 0) (from (1 ∷ 2 ∷ 3 ∷ []))
          (may_register does 0 (lit< tt))
          (put_all May (due 1) (register_place job i 1) (value 1) (from (2 ∷ 3 ∷ []))
          (may_register does 1 (lit< tt))
          (put_all May (due 2) (register_place job i 2) (value 2) (from (3 ∷ []))
          (may_register does 2 (lit< tt))
          (put_all May (due 3) (register_place job i 3) (value 3) last
          (may_register does 3 (lit< tt))
          (put_all May (lands_counter job known R) (counter_place job i) R.next []
          (may_counter does) tt))))

  -- and each of its own that gets a word is written
  pub land_all : (P : ℕ → Type 0) →
      AllByRecursion (λ w. P w.0) (landings job (suc x) i known R) →
      (p v : ℕ) → Lands (Wide g) job x p i v → job.cells ≤ p → P p
  land_all P all p v (asked shared asks) high = absurd (omega (arith, shared, high))
  land_all P all p v (own apart does who what) high =
      let is : owner job p ≡ i = sym who in
      let both = and_parts _ _ does in
      let here = ap (settles job x) (sym is) ∙ both.0 in
      let below = below_owner job p (omega (arith, is, proc)) in
      by (subst (λ (j : ℕ). IsOwn job j p) is (own_place job p high below).1) both.1
      (subst (AllByRecursion (λ (w : ℕ × ℕ). P w.0))
      (cond-true (settles_in job (suc x) known.settled known.own) (from all_registers) []
      (settles_same ∙ here)) all)
    where
      by : IsOwn job i p → Due job i x limits proc known is_true at p ≡ true →
          AllByRecursion (λ w. P w.0) (from all_registers) → P p
      by mine is_due each =
          let Q = λ (w : ℕ × ℕ). P w.0 in
          let a = put_parts Q (due 0) (register_place job i 0) (value 0)
          (from (1 ∷ 2 ∷ 3 ∷ [])) each in
          let b = put_parts Q (due 1) (register_place job i 1) (value 1) (from (2 ∷ 3 ∷ [])) a.1 in
          let c = put_parts Q (due 2) (register_place job i 2) (value 2) (from (3 ∷ [])) b.1 in
          let d = put_parts Q (due 3) (register_place job i 3) (value 3) last c.1 in
          let e = put_parts Q (lands_counter job known R) (counter_place job i) R.next [] d.1 in
          at_place mine is_due a.0 b.0 c.0 d.0 e.0
        where
          of_register : (r : ℕ) → r < 4 → due r ≡ true →
              (due 0 ≡ true → P (register_place job i 0)) →
              (due 1 ≡ true → P (register_place job i 1)) →
              (due 2 ≡ true → P (register_place job i 2)) →
              (due 3 ≡ true → P (register_place job i 3)) → P (register_place job i r)
          of_register zero low is a b c d = a is
          of_register (suc zero) low is a b c d = b is
          of_register (suc (suc zero)) low is a b c d = c is
          of_register (suc (suc (suc zero))) low is a b c d = d is
          of_register (suc (suc (suc (suc r)))) low is a b c d = absurd (omega (arith, low))

          at_place : IsOwn job i p → Due job i x limits proc known is_true at p ≡ true →
              (due 0 ≡ true → P (register_place job i 0)) →
              (due 1 ≡ true → P (register_place job i 1)) →
              (due 2 ≡ true → P (register_place job i 2)) →
              (due 3 ≡ true → P (register_place job i 3)) →
              (lands_counter job known R ≡ true → P (counter_place job i)) → P p
          at_place (inl (r, low, e)) is a b c d k = subst P (sym e)
              (of_register r low (register_due job i x limits proc known is_true at r low
              ∙ subst (λ (q : ℕ). Due job i x limits proc known is_true at q ≡ true) e is) a b c d)
          at_place (inr e) is a b c d k = subst P (sym e)
              (k (counter_due job i x limits proc known is_true at
              ∙ subst (λ (q : ℕ). Due job i x limits proc known is_true at q ≡ true) e is))
