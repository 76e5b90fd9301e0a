-- The phase that comes next, by the form.
use Rattle.std.proofs.Common.{◌≡◌, ℕ, suc, ◌+◌, ◌-◌, ◌*◌, ◌/◌, ◌%◌, ◌<◌, ◌≤◌, ◌==◌, IsTrue}
use Rattle.std.proofs.Common.{refl, inl, inr, arith}
use Rattle.std.specs.Prelude.{not}
use Rattle.std.proofs.lemmas.Bool.{cases_eq, eq-eqb, ne_eqb}
use Rattle.pram_words.specs.declared.layout.Form.{Form}
use Rattle.pram_words.specs.declared.layout.Form.TheVariants.{Compact, Wide}
use Rattle.pram_words.specs.Laws.{PhasesFollow}
use Rattle.pram_words.specs.Phases.{has_phase, next_phase, phase_before}

-- the next phase in the wide form, by what the root is
pub wide_next_first : (g r : ℕ) → r % 3 ≡ 1 → next_phase (Wide g) r ≡ r + 2
wide_next_first g r e = rw (eq-eqb (r % 3) 1 e) refl

pub wide_next_other : (g r : ℕ) → (r % 3 ≡ 1 → ⊥) → next_phase (Wide g) r ≡ r + 1
wide_next_other g r n = rw (ne_eqb (r % 3) 1 n) refl

wide_phase : (g q : ℕ) → IsTrue (has_phase (Wide g) q) → q % 3 ≡ 2 → ⊥
wide_phase g q h e = absurd (let k : IsTrue (not (q % 3 == 2)) = h in
    let l = rw (eq-eqb (q % 3) 2 e) at k in cc)

-- it is above the root, by 1 or 2, and not above the last phase of the root's step
pub next_above : (form : Form) (r : ℕ) → (r < next_phase form r) × (next_phase form r ≤ r + 2)
next_above Compact r = (omega arith, omega arith)
next_above (Wide g) r = elim (cases_eq (r % 3) 1) [
  | inl e ↦ (let h = wide_next_first g r e in (omega (arith, h), omega (arith, h)))
  | inr n ↦ (let h = wide_next_other g r n in (omega (arith, h), omega (arith, h)))
]

pub next_within : (form : Form) (r t : ℕ) → r < 3 * t → next_phase form r ≤ 3 * t
next_within Compact r t less = omega arith
next_within (Wide g) r t less = elim (cases_eq (r % 3) 1) [
  | inl e ↦ (let h = wide_next_first g r e in omega (arith, h, e))
  | inr n ↦ (let h = wide_next_other g r n in omega (arith, h))
]

-- it rises with the root
pub next_rises : (form : Form) (r s : ℕ) → r ≤ s → next_phase form r ≤ next_phase form s
next_rises Compact r s h = omega arith
next_rises (Wide g) r s h = elim (cases_eq (r % 3) 1) [
  | inl e ↦ (let a = wide_next_first g r e in elim (cases_eq (s % 3) 1) [
    | inl f ↦ (let b = wide_next_first g s f in omega (arith, a, b))
    | inr m ↦ (let b = wide_next_other g s m in elim (cases_eq r s) [
      | inl same ↦ absurd (m (omega (arith, e, same)))
      | inr other ↦ omega (arith, a, b)
    ])
  ])
  | inr n ↦ (let a = wide_next_other g r n in let b = (next_above (Wide g) s).0 in
      omega (arith, a, b))
]

-- no phase of the form lies between the root and the next one
pub next_least : (form : Form) (r q : ℕ) → IsTrue (has_phase form q) → r < q →
    next_phase form r ≤ q
next_least Compact r q is less = omega arith
next_least (Wide g) r q is less = elim (cases_eq (r % 3) 1) [
  | inl e ↦ (let h = wide_next_first g r e in elim (cases_eq q (r + 1)) [
    | inl same ↦ absurd (wide_phase g q is (omega (arith, same, e)))
    | inr other ↦ omega (arith, h)
  ])
  | inr n ↦ (let h = wide_next_other g r n in omega (arith, h))
]

-- so where the words stand before a phase that may come, it is the next one
pub next_is : (form : Form) (r q : ℕ) → IsTrue (has_phase form q) → q ≤ next_phase form r →
    r < q → next_phase form r ≡ q
next_is form r q is floor less = let a = next_least form r q is less in omega (arith, a, floor)

-- a step is under way where its first phase may come, and past that where a later one may
pub next_step : (form : Form) (r t : ℕ) → 3 * t + 1 ≤ next_phase form r → 3 * t ≤ r
next_step Compact r t h = omega arith
next_step (Wide g) r t h = elim (cases_eq (r % 3) 1) [
  | inl e ↦ (let a = wide_next_first g r e in omega (arith, a, e, h))
  | inr n ↦ (let a = wide_next_other g r n in omega (arith, a, h))
]

pub next_inside : (form : Form) (r t : ℕ) → 3 * t + 2 ≤ next_phase form r → 3 * t + 1 ≤ r
next_inside Compact r t h = omega arith
next_inside (Wide g) r t h = elim (cases_eq (r % 3) 1) [
  | inl e ↦ (let a = wide_next_first g r e in omega (arith, a, e, h))
  | inr n ↦ (let a = wide_next_other g r n in omega (arith, a, h))
]

-- what the root holds where a phase comes
pub before_next : (form : Form) (r : ℕ) → IsTrue (has_phase form r) →
    phase_before form (next_phase form r) ≡ r
before_next Compact r is = omega arith
before_next (Wide g) r is = elim (cases_eq (r % 3) 1) [
  | inl e ↦ (let z : (r + 2) % 3 ≡ 0 = omega (arith, e) in
      rw (wide_next_first g r e, eq-eqb ((r + 2) % 3) 0 z) (omega arith))
  | inr n ↦ (let two = wide_phase g r is in
      let z : (r + 1) % 3 ≡ 0 → ⊥ = λ e. two (omega (arith, e)) in
      rw (wide_next_other g r n, ne_eqb ((r + 1) % 3) 0 z) (omega arith))
]

-- whatever the root holds, what comes is a phase of the form
pub has_next : (form : Form) (r : ℕ) → IsTrue (has_phase form (next_phase form r))
has_next Compact r = refl
has_next (Wide g) r = elim (cases_eq (r % 3) 1) [
  | inl e ↦ (let z : (r + 2) % 3 ≡ 2 → ⊥ = λ k. absurd (omega (arith, e, k)) in
      rw (wide_next_first g r e, ne_eqb ((r + 2) % 3) 2 z) refl)
  | inr n ↦ (let z : (r + 1) % 3 ≡ 2 → ⊥ = λ k. n (omega (arith, k)) in
      rw (wide_next_other g r n, ne_eqb ((r + 1) % 3) 2 z) refl)
]

-- after what the root holds before a phase comes that phase, or a later one
pub before_least : (form : Form) (q : ℕ) → 1 ≤ q → q ≤ next_phase form (phase_before form q)
before_least Compact q some = omega arith
before_least (Wide g) q some = elim (cases_eq (q % 3) 0) [
  | inl e ↦ (let b : phase_before (Wide g) q ≡ q - 2 = rw (eq-eqb (q % 3) 0 e) refl in
      let one : (q - 2) % 3 ≡ 1 = omega (arith, e, some) in
      rw (b, wide_next_first g (q - 2) one) (omega arith))
  | inr n ↦ (let b : phase_before (Wide g) q ≡ q - 1 = rw (ne_eqb (q % 3) 0 n) refl in
      let a = (next_above (Wide g) (q - 1)).0 in rw b (omega (arith, a)))
]

-- the root before a phase of step x + 1 is not below the last phase of step x, nor at the end of
-- the step
pub before_parts : (form : Form) (q x : ℕ) → 1 ≤ q → (q + 2) / 3 ≡ suc x →
    IsTrue (has_phase form q) → (3 * x ≤ phase_before form q) × (phase_before form q < 3 * x + 3)
before_parts Compact q x some step is = (omega arith, omega arith)
before_parts (Wide g) q x some step is = elim (cases_eq (q % 3) 0) [
  | inl e ↦ (let b : phase_before (Wide g) q ≡ q - 2 = rw (eq-eqb (q % 3) 0 e) refl in
      (omega (arith, b, e, some, step), omega (arith, b, e, some, step)))
  | inr n ↦ (let b : phase_before (Wide g) q ≡ q - 1 = rw (ne_eqb (q % 3) 0 n) refl in
      (omega (arith, b, n, some, step), omega (arith, b, n, some, step)))
]

pub follows : PhasesFollow
follows form root = (
  has_next form root,
  (next_above form root).0,
  λ phase is above. next_least form root phase is above,
  before_next form root,
)
