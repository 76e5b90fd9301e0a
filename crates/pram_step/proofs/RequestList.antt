-- Lists of requests, and their writers.
use Rattle.std.proofs.Common.{◌≡◌, ◌≢◌, ℕ, zero, suc, ◌+◌, ◌<◌, ◌⊎◌, eqb, cond, List}
use Rattle.std.proofs.Common.{[], ◌∷◌, length, take, get_or, Option, Some, None, refl}
use Rattle.std.proofs.Common.{sym, ap, ap₂, ◌∙◌, subst, inl, inr, arith, length-take-le}
use Rattle.std.specs.Prelude.{slice_get}
use Rattle.std.proofs.lemmas.Bool.{cases_eq, eq-eqb, ne_eqb, eqb-true, cases_Bool}
use Rattle.std.proofs.lemmas.Option.{none-some, same_Some, slice_get-get_or, slice_get_within}
use Rattle.std.proofs.lemmas.Option.{get_or_from_slice_get}
use Rattle.pram_job.specs.Job.{JobData}
use Rattle.pram_machine.specs.declared.requests.Request.{Request}
use Rattle.pram_machine.specs.Instructions.{request_in, requests_in}
use Rattle.pram_machine.specs.Machine.{State, counter_place}
use Rattle.pram_machine.proofs.Shapes.{asks}
use Rattle.pram_step.specs.Steps.{written, Writes}
use Rattle.pram_step.specs.Inner.Marks.{PutsValue}

-- ---- the front of a list, and with one element more

pub slice_get-take : {X : Type 0} (n : ℕ) (xs : List X) (i : ℕ) → i < n →
    slice_get (take n xs) i ≡ slice_get xs i
slice_get-take zero xs i h = absurd (omega arith)
slice_get-take (suc n) [] i h = refl
slice_get-take (suc n) (x ∷ xs) zero h = refl
slice_get-take (suc n) (x ∷ xs) (suc i) h = slice_get-take n xs i (omega arith)

-- as code reads it
abbrev pub request_at : List Request → ℕ → Request
request_at requests i = get_or requests i (record { put = None; next = 0 })

pub asked_at : (job : JobData) (s : State) (i : ℕ) → i < job.procs →
    request_at (requests_in job s) i ≡ request_in job s i
asked_at job s i low = get_or_from_slice_get (requests_in job s) i (request_in job s i)
    (record { put = None; next = 0 }) (asks job s i low)

module _ (requests : List Request) (m : ℕ) (inside : m < length requests) where
  pub slice_get_below : (i : ℕ) (r : Request) → slice_get (take m requests) i ≡ Some r → i < m
  slice_get_below i r h = subst (λ n. i < n) (length-take-le m requests (omega arith))
      (slice_get_within (take m requests) i r h)

  pub slice_get_more : (i : ℕ) (r : Request) → slice_get (take m requests) i ≡ Some r →
      slice_get (take (m + 1) requests) i ≡ Some r
  slice_get_more i r h =
      let low = slice_get_below i r h in
      slice_get-take (m + 1) requests i (omega arith) ∙ sym (slice_get-take m requests i low) ∙ h

  pub slice_get_last : slice_get (take (m + 1) requests) m ≡ Some (request_at requests m)
  slice_get_last = slice_get-take (m + 1) requests m (omega arith)
      ∙ slice_get-get_or requests m (record { put = None; next = 0 }) inside

  -- an element of the longer front is one of the shorter, or the new one
  pub slice_get_earlier : (i : ℕ) (r : Request) → slice_get (take (m + 1) requests) i ≡ Some r →
      (slice_get (take m requests) i ≡ Some r) ⊎ ((i ≡ m) × (request_at requests m ≡ r))
  slice_get_earlier i r h = elim (cases_eq i m) [
    | inl same ↦ inr (
      same,
      same_Some (request_at requests m) r
          (sym slice_get_last ∙ subst (λ n. slice_get (take (m + 1) requests) n ≡ Some r) same h),
    )
    | inr apart ↦
        let below : i < m + 1 = subst (λ n. i < n) (length-take-le (m + 1) requests (omega arith))
        (slice_get_within (take (m + 1) requests) i r h) in
        let low : i < m = omega arith in
        inl (slice_get-take m requests i low ∙ sym (slice_get-take (m + 1) requests i below) ∙ h)
  ]

-- ---- writes to cells are data

pub written_of_put : (job : JobData) (p i v : ℕ) (r : Request) → p ≢ counter_place job i →
    r.put ≡ Some (p, v) → written job p i r ≡ Some v
written_of_put job p i v r away puts =
    rw (ne_eqb p (counter_place job i) away, puts, eq-eqb p p refl)

-- a write to a place is the processor's next counter or its data
put_of_data : (p v : ℕ) (o : Option (ℕ × ℕ)) →
    (elim o [ None ↦ None | Some w ↦ cond (eqb w.0 p) (Some w.1) None ]) ≡ Some v → o ≡ Some (p, v)
put_of_data p v None h = absurd (none-some v h)
put_of_data p v (Some w) h =
    elim (cases_Bool (eqb w.0 p)) [
      | inl same ↦
          let at_place = eqb-true w.0 p same in
          let h' = rw same at h in
          let value = same_Some w.1 v h' in ap₂ (λ (a b : ℕ). Some (a, b)) at_place value
      | inr other ↦ let h' = rw other at h in absurd (none-some v h')
    ]

pub written_cases : (job : JobData) (p i v : ℕ) (r : Request) → written job p i r ≡ Some v →
    ((p ≡ counter_place job i) × (v ≡ r.next)) ⊎ (r.put ≡ Some (p, v))
written_cases job p i v r writes =
    elim (cases_Bool (eqb p (counter_place job i))) [
      | inl same ↦ (let h = rw same at writes in
          inl (eqb-true p (counter_place job i) same, sym (same_Some r.next v h)))
      | inr away ↦ let h = rw away at writes in inr (put_of_data p v r.put h)
    ]

pub put_of_written : (job : JobData) (cell i v : ℕ) (r : Request) → cell < job.cells →
    written job cell i r ≡ Some v → r.put ≡ Some (cell, v)
put_of_written job cell i v r low writes = elim (written_cases job cell i v r writes) [
  | inl counter ↦ absurd (let c = counter.0 in omega arith)
  | inr puts ↦ puts
]

-- each processor's write to a cell is its data
pub Puts-from_Writes : (job : JobData) (requests : List Request) (cell i v : ℕ) → cell < job.cells →
    Writes job requests cell i v → PutsValue requests cell i v
Puts-from_Writes job requests cell i v low w = record {
  request = w.request;
  request_is = w.request_is;
  puts = put_of_written job cell i v w.request low w.writes;
}

pub Writes-from_Puts : (job : JobData) (requests : List Request) (cell i v : ℕ) → cell < job.cells →
    PutsValue requests cell i v → Writes job requests cell i v
Writes-from_Puts job requests cell i v low p = record {
  request = p.request;
  request_is = p.request_is;
  writes = written_of_put job cell i v p.request (λ same. omega arith) p.puts;
}

-- ---- what one processor puts

pub Puts_inside : (requests : List Request) (place i v : ℕ) → PutsValue requests place i v →
    i < length requests
Puts_inside requests place i v p = slice_get_within requests i p.request p.request_is

pub Puts_at : (requests : List Request) (place i v : ℕ) → PutsValue requests place i v →
    (request_at requests i).put ≡ Some (place, v)
Puts_at requests place i v p =
    subst (λ (q : Request). q.put ≡ Some (place, v)) (sym (get_or_from_slice_get requests i
    p.request (record { put = None; next = 0 }) p.request_is)) p.puts

-- what processor i asks for is what it puts
pub Puts_put : (requests : List Request) (place i v : ℕ) (request : Request)
    (put : Option (ℕ × ℕ)) → slice_get requests i ≡ Some request → request.put ≡ put →
    PutsValue requests place i v → put ≡ Some (place, v)
Puts_put requests place i v request put is e p =
    sym e ∙ ap (λ (r : Request). r.put) (same_Some request p.request (sym is ∙ p.request_is))
    ∙ p.puts
