-- The phase of a step in which a task is done.
use Rattle.std.proofs.Common.{◌≡◌, ℕ, ◌%◌, ◌==◌, inl, inr, arith}
use Rattle.std.proofs.lemmas.Bool.{cases_Bool, eqb-true}
use Rattle.pram_words.specs.declared.phases.Kind.TheVariants.{Compute, Verify}
use Rattle.pram_words.specs.Phases.{kind_at, phase_of, step_at}

pub compute_at : (q : ℕ) → kind_at q ≡ Compute → q % 3 ≡ 1
compute_at q is = elim (cases_Bool (q % 3 == 0)) [
  | inl e ↦ absurd (let other = rw e at is in cc)
  | inr e ↦ elim (cases_Bool (q % 3 == 1)) [
    | inl f ↦ eqb-true (q % 3) 1 f
    | inr f ↦ absurd (let other = rw (e, f) at is in cc)
  ]
]

pub verify_at : (q : ℕ) → kind_at q ≡ Verify → q % 3 ≡ 0
verify_at q is = elim (cases_Bool (q % 3 == 0)) [
  | inl e ↦ eqb-true (q % 3) 0 e
  | inr e ↦ elim (cases_Bool (q % 3 == 1)) [
    | inl f ↦ absurd (let other = rw (e, f) at is in cc)
    | inr f ↦ absurd (let other = rw (e, f) at is in cc)
  ]
]

pub compute_is : (q : ℕ) → kind_at q ≡ Compute → q ≡ phase_of (step_at q) Compute
compute_is q is = omega (arith, compute_at q is)

pub verify_is : (q : ℕ) → kind_at q ≡ Verify → q ≡ phase_of (step_at q) Verify
verify_is q is = omega (arith, verify_at q is)
