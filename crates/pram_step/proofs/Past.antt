-- When places are written, and what they hold.
use Rattle.std.proofs.Common.{◌≡◌, ◌≢◌, ◌⊎◌, ◌↔◌, ℕ, zero, suc, ◌+◌, ◌<◌, ◌≤◌, ◌^◌, slice_index}
use Rattle.std.proofs.Common.{Option, Some, None, refl, sym, ap, subst, ◌∙◌, inl, inr, arith}
use Rattle.std.proofs.lemmas.Bool.{cases_order, cases_lt}
use Rattle.pram_job.specs.Job.{JobData, IsJob}
use Rattle.pram_machine.specs.Machine.{place_count, counter_place}
use Rattle.pram_machine.specs.Instructions.{request_in}
use Rattle.pram_step.specs.Runs.{IsReached, AgreesAfter, state_after, requests_after}
use Rattle.pram_step.specs.History.{Asks, Wins, IsWritten, last_by}
use Rattle.pram_step.specs.History.{last_write, write_before, part_after}
use Rattle.pram_step.proofs.LawWriters.{writer_cases}
use Rattle.pram_step.proofs.RequestList.{written_of_put, written_cases}
use Rattle.pram_machine.proofs.Shapes.{asks, place_fits, request_place}
use Rattle.pram_step.proofs.LawPlaces.{writer_is, writes_place}
use Rattle.pram_step.proofs.LawNext.{next_is_next, after_none}
use Rattle.pram_step.proofs.LawFixed.{length-state_after}
use Rattle.pram_step.proofs.LawCounters.{writes_next}
use Rattle.pram_step.proofs.LawFits.{state_fits, writes_fit}

-- ---- step s + 1 writes the place, or leaves it

pub record Left (job : JobData) (s p : ℕ) : Type 0 where
  pub none : IsWritten job s p → ⊥
  pub last : last_write job (suc s) p ≡ last_write job s p
  pub value : IsJob job → p < place_count job →
      slice_index (state_after job (suc s)) p ≡ slice_index (state_after job s) p

pub record Set (job : JobData) (s p : ℕ) : Type 0 where
  pub written : IsWritten job s p
  pub last : last_write job (suc s) p ≡ suc s

pub write_cases : (job : JobData) (s p : ℕ) → Left job s p ⊎ Set job s p
unfolding last_write state_after
write_cases job s p = elim (writer_cases job (requests_after job s) p) [
  | inl n ↦ inl (record {
    none = λ w. n.none w.writer w.value w.asks;
    last = ap (λ (o : Option ℕ). last_by o s (last_write job s p)) n.found;
    value = λ is below. after_none job (requests_after job s) (state_after job s) p
        (let e = length-state_after job s is in omega arith) n.found;
  })
  | inr f ↦ inr (record {
    written = record { writer = f.writer; value = f.value; asks = f.first.writes };
    last = ap (λ (o : Option ℕ). last_by o s (last_write job s p)) f.found;
  })
]

pub last_new : (job : JobData) (s p : ℕ) → IsWritten job s p → last_write job (suc s) p ≡ suc s
last_new job s p w = elim (write_cases job s p) [ inl l ↦ absurd (l.none w) | inr k ↦ k.last ]

-- ---- the last write

pub last_most : (job : JobData) (t p : ℕ) → last_write job t p ≤ t
last_most job zero p = unfold last_write in omega arith
last_most job (suc s) p = elim (write_cases job s p) [
  | inl l ↦ (let h = last_most job s p in let e = l.last in omega arith)
  | inr w ↦ (let e = w.last in omega arith)
]

pub last_is : (job : JobData) (t p s : ℕ) → last_write job t p ≡ suc s → IsWritten job s p
last_is job zero p s e = absurd (let h = last_most job 0 p in omega arith)
last_is job (suc t) p s e = elim (write_cases job t p) [
  | inl l ↦ last_is job t p s (sym l.last ∙ e)
  | inr w ↦ (let f = w.last in
      let same : t ≡ s = omega arith in subst (λ (n : ℕ). IsWritten job n p) same w.written)
]

pub last_least : (job : JobData) (t p s : ℕ) → s < t → IsWritten job s p → s < last_write job t p
last_least job zero p s h w = absurd (omega arith)
last_least job (suc t) p s h w = elim (write_cases job t p) [
  | inl l ↦ elim (cases_order s t) [
    | inl e ↦ absurd (l.none (subst (λ (n : ℕ). IsWritten job n p) e w))
    | inr c ↦ elim c [
      | inl less ↦ (let k = last_least job t p s less w in let e = l.last in omega arith)
      | inr more ↦ absurd (omega arith)
    ]
  ]
  | inr k ↦ (let e = k.last in omega arith)
]

pub last_write_is : (job : JobData) (t p : ℕ) →
    (last_write job t p ≤ t) × ((s : ℕ) → last_write job t p ≡ suc s → IsWritten job s p)
    × ((s : ℕ) → s < t → IsWritten job s p → s < last_write job t p)
last_write_is job t p = (last_most job t p, last_is job t p, last_least job t p)

last_rises_by : (job : JobData) (x f p l : ℕ) → x ≤ f →
    last_write job x p ≡ l → l ≤ last_write job f p
last_rises_by job x f p zero h e = omega arith
last_rises_by job x f p (suc s) h e =
    let m = last_most job x p in last_least job f p s (omega arith) (last_is job x p s e)

pub last_rises : (job : JobData) (x f p : ℕ) → x ≤ f → last_write job x p ≤ last_write job f p
last_rises job x f p h = last_rises_by job x f p (last_write job x p) h refl

pub before_most : (job : JobData) (t p : ℕ) → write_before job t p ≤ t
before_most job zero p = omega arith
before_most job (suc s) p = let m = last_most job s p in omega arith

-- ---- between two steps

pub last_between : (job : JobData) (t f p : ℕ) → t ≤ f → last_write job f p ≤ t →
    last_write job f p ≡ last_write job t p
last_between job t zero p h low = ap (λ (n : ℕ). last_write job n p) (omega arith)
last_between job t (suc f) p h low = elim (cases_lt t (suc f)) [
  | inl c ↦ elim (write_cases job f p) [
    | inl l ↦ (let e = l.last in e ∙ last_between job t f p (omega arith) (omega arith))
    | inr w ↦ absurd (let e = w.last in omega arith)
  ]
  | inr c ↦ ap (λ (n : ℕ). last_write job n p) (omega arith)
]

pub value_kept : (job : JobData) (t u p : ℕ) →
    IsJob job → p < place_count job → t ≤ u → ((s : ℕ) → t ≤ s → s < u → IsWritten job s p → ⊥) →
    slice_index (state_after job u) p ≡ slice_index (state_after job t) p
value_kept job t zero p is below h none =
    ap (λ (n : ℕ). slice_index (state_after job n) p) (omega arith)
value_kept job t (suc u) p is below h none = elim (cases_lt t (suc u)) [
  | inl c ↦ elim (write_cases job u p) [
    | inl l ↦ l.value is below
        ∙ value_kept job t u p is below (omega arith) (λ s low high. none s low (omega arith))
    | inr w ↦ absurd (none u (omega arith) (omega arith) w.written)
  ]
  | inr c ↦ ap (λ (n : ℕ). slice_index (state_after job n) p) (omega arith)
]

pub value_between : (job : JobData) (t u p : ℕ) → IsJob job → p < place_count job → t ≤ u →
    last_write job u p ≤ t → slice_index (state_after job u) p ≡ slice_index (state_after job t) p
value_between job t u p is below h low = value_kept job t u p is below h
    (λ s after before w. absurd (let k = last_least job u p s before w in omega arith))

pub value_of_last : (job : JobData) (t p : ℕ) → IsJob job → p < place_count job →
    slice_index (state_after job t) p ≡ slice_index (state_after job (last_write job t p)) p
value_of_last job t p is below =
    value_between job (last_write job t p) t p is below (last_most job t p) (omega arith)

-- a write that counts is what the place holds
pub written_value : (job : JobData) (s p i v : ℕ) →
    IsJob job → p < place_count job → AgreesAfter job s → Asks job s p i v → Wins job s p i →
    slice_index (state_after job (suc s)) p ≡ v
unfolding state_after
written_value job s p i v is below agrees asks wins =
    (next_is_next job (state_after job s) is agrees).written_to p i v
    (let e = length-state_after job s is in omega arith) asks wins

-- ---- what is written

pub value_fits : (job : JobData) (t p : ℕ) → IsJob job → slice_index (state_after job t) p < 2 ^ 32
value_fits job t p is = place_fits (state_after job t) p (state_fits job t is)

pub asks_fit : (job : JobData) (s p i v : ℕ) → IsJob job → Asks job s p i v →
    (p < place_count job) × (v < 2 ^ 32)
asks_fit job s p i v is asks =
    let w = writes_place job (state_after job s) p i v is asks in
    let l = w.0 in
    let place : p < place_count job = elim w.1 [
      | inl e ↦ omega arith
      | inr d ↦ elim d [ inl c ↦ omega arith | inr c ↦ (let m = c.1 in omega arith) ]
    ] in
    (place, writes_fit job (state_after job s) p i v is (state_fits job s is) asks)

put_of : (o : Option (ℕ × ℕ)) (p v : ℕ) → elim o [ None ↦ 0 | Some w ↦ w.0 + 1 ] ≡ suc p →
    elim o [ None ↦ 0 | Some w ↦ w.1 ] ≡ v → o ≡ Some (p, v)
put_of None p v e g = absurd (omega arith)
put_of (Some (a, b)) p v e g = let f : a ≡ p = omega arith in cc

part_of_put : (o : Option (ℕ × ℕ)) (p v : ℕ) → o ≡ Some (p, v) →
    (elim o [ None ↦ 0 | Some w ↦ w.0 + 1 ] ≡ suc p) × (elim o [ None ↦ 0 | Some w ↦ w.1 ] ≡ v)
part_of_put None p v e = absurd (cc)
part_of_put (Some (a, b)) p v e =
    let f : (a, b) ≡ (p, v) = cc in
    (let g : a ≡ p = ap (λ (z : ℕ × ℕ). z.0) f in omega arith, ap (λ (z : ℕ × ℕ). z.1) f)

-- its next counter
pub counter_write : (job : JobData) (s i : ℕ) → i < job.procs →
    Asks job s (counter_place job i) i (part_after job s i 2)
counter_write job s i proc = writes_next job (state_after job s) i proc

-- and its data, if there is any
pub data_write : (job : JobData) (s i p : ℕ) → IsJob job → i < job.procs →
    part_after job s i 0 ≡ suc p → Asks job s p i (part_after job s i 1) × (p ≢ counter_place job i)
data_write job s i p is proc e =
    let r = request_in job (state_after job s) i in
    let put : r.put ≡ Some (p, part_after job s i 1) =
    put_of r.put p (part_after job s i 1) e refl in
    let away : p ≢ counter_place job i =
    λ g. elim (request_place job (state_after job s) i p (part_after job s i 1) is put) [
      | inl c ↦ omega arith
      | inr c ↦ (let m = c.1 in omega arith)
    ] in (
      record {
        request = r;
        request_is = asks job (state_after job s) i proc;
        writes = written_of_put job p i (part_after job s i 1) r away put;
      },
      away,
    )

-- and these are all
pub each_write : (job : JobData) (s p i v : ℕ) → Asks job s p i v →
    ((p ≡ counter_place job i) × (v ≡ part_after job s i 2))
    ⊎ ((part_after job s i 0 ≡ suc p) × (part_after job s i 1 ≡ v))
each_write job s p i v w =
    let r = request_in job (state_after job s) i in
    elim (written_cases job p i v r (writer_is job (state_after job s) p i v w).1) [
      | inl counter ↦ inl counter
      | inr put ↦ inr (part_of_put r.put p v put)
    ]

pub writes_are : (job : JobData) (s p i v : ℕ) → IsJob job → i < job.procs →
    Asks job s p i v ↔ (((p ≡ counter_place job i) × (v ≡ part_after job s i 2))
    ⊎ ((part_after job s i 0 ≡ suc p) × (part_after job s i 1 ≡ v)))
writes_are job s p i v is proc = (
  each_write job s p i v,
  λ c. elim c [
    | inl counter ↦ subst (λ (q : ℕ). Asks job s q i v) (sym counter.0)
        (subst (λ (w : ℕ). Asks job s (counter_place job i) i w)
        (sym counter.1) (counter_write job s i proc))
    | inr data' ↦
        subst (λ (w : ℕ). Asks job s p i w) data'.1 (data_write job s i p is proc data'.0).0
  ],
)

-- ---- steps that do not agree

-- such a step is after all that are reached
pub conflict_above : (job : JobData) (s f : ℕ) → (AgreesAfter job s → ⊥) → IsReached job f → f ≤ s
conflict_above job s f not reached =
    elim (cases_lt s f) [ inl c ↦ absurd (not (reached s c)) | inr c ↦ c ]
