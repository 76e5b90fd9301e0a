-- The newest word of a processor's own is that of the step in which it settled.
use Rattle.std.proofs.Common.{◌≡◌, ◌⊎◌, ℕ, zero, suc, ◌-◌, ◌/◌, ◌<◌, ◌≤◌, true, false}
use Rattle.std.proofs.Common.{slice_get, slice_index, Option, Some, None, refl, sym}
use Rattle.std.proofs.Common.{ap, ◌+◌, subst, ◌∙◌, inl, inr, arith, length}
use Rattle.std.specs.Prelude.{Bool}
use Rattle.std.proofs.lemmas.Bool.{cases_lt, cases_Bool, lt-ltb, le-ltb, and_from, or_left}
use Rattle.std.proofs.lemmas.Bool.{or_right, cond-true, cond-false, false≢true, ne_eqb}
use Rattle.std.proofs.lemmas.Bool.{not_from_false}
use Rattle.std.proofs.lemmas.Option.{slice_get_within}
use Rattle.pram_job.specs.declared.instr.Instr.{Instr}
use Rattle.pram_job.specs.declared.instr.Operands.{Operands}
use Rattle.pram_job.specs.declared.instr.Operands.TheVariants.{Bare, Target, TargetNumber}
use Rattle.pram_job.specs.declared.instr.Operands.TheVariants.{TargetPlace, TargetTwo, PlaceValue}
use Rattle.pram_job.specs.declared.instr.Operands.TheVariants.{RegisterIndex, Index}
use Rattle.pram_job.specs.Instructions.{AreOperands, row_of}
use Rattle.pram_job.specs.Job.{JobData, IsJob, IsInstr}
use Rattle.pram_job.specs.Places.{counters_at}
use Rattle.pram_machine.specs.declared.requests.Request.{Request}
use Rattle.pram_machine.specs.Instructions.{cell_of, decided, decided_in, gives, goes_to}
use Rattle.pram_machine.specs.Instructions.{computed, request_in, request_with, within}
use Rattle.pram_machine.specs.Machine.{State, counter, counter_place, out_of_range, place_count}
use Rattle.pram_machine.specs.Machine.{register_place}
use Rattle.pram_machine.proofs.Shapes.{asks, instr_is}
use Rattle.pram_step.specs.History.{Asks}
use Rattle.pram_step.specs.Runs.{state_after}
use Rattle.pram_step.proofs.LawCounters.{counter_next}
use Rattle.pram_step.proofs.LawPlaces.{writes_place}
use Rattle.pram_step.proofs.RequestList.{written_of_put}
use Rattle.pram_words.specs.declared.layout.Form.TheVariants.{Wide}
use Rattle.walk_memory.specs.Memory.{cell_next, is_load, is_load_row, loads_next, own_at, own_in}
use Rattle.walk_memory.specs.Memory.{settled_at, settles}
use Rattle.lawful_walk.proofs.Alone.{none_next}
use Rattle.std.specs.Prelude.{is_some}
use Rattle.lawful_walk.specs.Lands.{is_changed, is_counter, lands, last_landing, owner, tells_step}
use Rattle.lawful_walk.proofs.Landings.{asked_written, has_landing, lands_above, landing_cases}
use Rattle.lawful_walk.proofs.Landings.{last_least, landing_true, own_settles}
use Rattle.lawful_walk.proofs.Settles.{runs_before, settled_is, settled_most, settled_new}
use Rattle.lawful_walk.proofs.Settles.{settled_rises}

-- ---- whose a place is

-- the place is a register of processor i, or its counter
abbrev pub IsOwn : JobData → ℕ → ℕ → Type 0
IsOwn job i place = ((r : ℕ) × (r < 4) × (place ≡ register_place job i r))
    ⊎ (place ≡ counter_place job i)

counter_above : (job : JobData) (p : ℕ) → counters_at job.cells job.procs ≤ p →
    is_counter job p ≡ true
counter_above job p past = rw (le-ltb p (counters_at job.cells job.procs) past) refl

pub counter_is : (job : JobData) (i : ℕ) → is_counter job (counter_place job i) ≡ true
counter_is job i = counter_above job (counter_place job i) (omega arith)

pub register_below : (job : JobData) (p : ℕ) → p < counters_at job.cells job.procs →
    is_counter job p ≡ false
register_below job p low = rw (lt-ltb p (counters_at job.cells job.procs) low) refl

pub owner_register : (job : JobData) (i p : ℕ) → i < job.procs → register_place job i 0 ≤ p →
    p < register_place job i 4 → owner job p ≡ i
owner_register job i p proc low high =
    cond-false (is_counter job p) _ _ (register_below job p (omega (arith, proc, high)))
    ∙ omega (arith, low, high)

pub owner_counter : (job : JobData) (i : ℕ) → owner job (counter_place job i) ≡ i
owner_counter job i =
    cond-true (is_counter job (counter_place job i)) _ _ (counter_is job i) ∙ omega arith

-- each place above the cells is some processor's
pub own_place : (job : JobData) (p : ℕ) → job.cells ≤ p → p < place_count job →
    (owner job p < job.procs) × IsOwn job (owner job p) p
own_place job p high below = elim (cases_lt p (counters_at job.cells job.procs)) [
  | inl low ↦ (
      let i = (p - job.cells) / 4 in
      let is : owner job p ≡ i =
      cond-false (is_counter job p) _ _ (register_below job p low) in (
        omega (arith, is, low, high),
        inl (
          p - register_place job (owner job p) 0,
          omega (arith, is, high),
          omega (arith, is, high),
        ),
      ))
  | inr past ↦ (
      let i = p - counters_at job.cells job.procs in
      let at : counter_place job i ≡ p = omega (arith, past) in
      let is : owner job p ≡ i =
      subst (λ (q : ℕ). owner job q ≡ i) at (owner_counter job i) in
      (omega (arith, is, past, below), inr (omega (arith, is, past))))
]

-- with an owner among the processors it is a place of the machine, and the other way
pub below_owner : (job : JobData) (p : ℕ) → owner job p < job.procs → p < place_count job
below_owner job p proc = elim (cases_lt p (counters_at job.cells job.procs)) [
  | inl low ↦ omega (arith, low)
  | inr past ↦ (
      let is : owner job p ≡ p - counters_at job.cells job.procs =
      cond-true (is_counter job p) _ _ (counter_above job p past) in
      omega (arith, is, past, proc))
]

pub owner_below : (job : JobData) (p : ℕ) → job.cells ≤ p → p < place_count job →
    owner job p < job.procs
owner_below job p high below = (own_place job p high below).0

pub record OwnPlace (job : JobData) (i p : ℕ) : Type 0 where
  pub owner : owner job p ≡ i
  pub above : job.cells ≤ p
  pub below : p < place_count job

pub own_is : (job : JobData) (i p : ℕ) → i < job.procs → IsOwn job i p → OwnPlace job i p
own_is job i p proc (inl (r, low, at)) = record {
  owner = owner_register job i p proc (omega (arith, at)) (omega (arith, at, low));
  above = omega (arith, at);
  below = omega (arith, at, low, proc);
}
own_is job i p proc (inr at) = record {
  owner = subst (λ (q : ℕ). owner job q ≡ i) (sym at) (owner_counter job i);
  above = omega (arith, at);
  below = omega (arith, at, proc);
}

-- who writes such a place is its owner
pub own_writer : (job : JobData) (t p i v : ℕ) → IsJob job → Asks job t p i v → job.cells ≤ p →
    owner job p ≡ i
own_writer job t p i v is_job asked high =
    let at = writes_place job (state_after job t) p i v is_job asked in
    elim at.1 [
      | inl c ↦ subst (λ (q : ℕ). owner job q ≡ i) (sym c) (owner_counter job i)
      | inr d ↦ elim d [
        | inl cell ↦ absurd (omega (arith, cell, high))
        | inr own ↦ owner_register job i p at.0 own.0 own.1
      ]
    ]

-- ---- a load gives a register what a cell holds, or, where there is no such cell, stops

abbrev pub GivesRegister : JobData → ℕ → Request → Type 0
GivesRegister job i request = (r : ℕ) × (v : ℕ) × (r < 4)
    × (request.put ≡ Some (register_place job i r, v))

abbrev pub LoadGives : JobData → ℕ → Request → Type 0
LoadGives job i request = GivesRegister job i request ⊎ (request.next ≡ out_of_range job)

module _ (job : JobData) (i counter a b v : ℕ) where
  by_cell : (r : ℕ) → r < 4 → (o : Option ℕ) →
      LoadGives job i (within o (out_of_range job) (λ cell. gives job i counter r v))
  by_cell r low None = inr refl
  by_cell r low (Some cell) = inl (r, v, low, refl)

  load_asked : (cells len : ℕ) (computes : ℕ → ℕ → Option ℕ) (operands : Operands) →
      AreOperands cells len operands → is_load_row operands ≡ true →
      LoadGives job i (request_with job i counter computes operands a b v)
  load_asked cells len computes Bare are loads = absurd (false≢true loads)
  load_asked cells len computes (Target r) are loads = absurd (false≢true loads)
  load_asked cells len computes (TargetNumber r k) are loads = absurd (false≢true loads)
  load_asked cells len computes (TargetPlace r place) are loads =
      by_cell r are.0 (cell_of job place a)
  load_asked cells len computes (TargetTwo r s c) are loads = absurd (false≢true loads)
  load_asked cells len computes (PlaceValue place c) are loads = absurd (false≢true loads)
  load_asked cells len computes (RegisterIndex r index) are loads = absurd (false≢true loads)
  load_asked cells len computes (Index index) are loads = absurd (false≢true loads)

  load_decided : (cells len : ℕ) (instr : Instr) → IsInstr cells len instr →
      is_load (Some instr) ≡ true → LoadGives job i (decided job i counter instr a b v)
  unfolding decided
  load_decided cells len instr is loads =
      load_asked cells len (computed instr) (row_of instr).1 is loads

pub load_gives : (job : JobData) (s : State) (i : ℕ) → IsJob job →
    loads_next job (own_in job s i) ≡ true → LoadGives job i (request_in job s i)
unfolding request_in
load_gives job s i is_job = by (slice_get job.code (counter job s i)) refl
  where
    by : (o : Option Instr) → slice_get job.code (counter job s i) ≡ o → is_load o ≡ true →
        LoadGives job i (elim o [
          | None ↦ goes_to (counter job s i)
          | Some instr ↦ decided_in job s i instr
        ])
    by None e loads = absurd (false≢true loads)
    by (Some instr) e loads = load_decided job i (counter job s i) _ _ _ job.cells
        (length job.code) instr (instr_is job (counter job s i) instr is_job e) loads

-- who loads has not stopped
load_runs : (job : JobData) (s : State) (i : ℕ) → loads_next job (own_in job s i) ≡ true →
    counter job s i < length job.code
load_runs job s i = by (slice_get job.code (counter job s i)) refl
  where
    by : (o : Option Instr) → slice_get job.code (counter job s i) ≡ o → is_load o ≡ true →
        counter job s i < length job.code
    by None e loads = absurd (false≢true loads)
    by (Some instr) e loads = slice_get_within job.code (counter job s i) instr e

-- ---- the words of a processor's own

module _ (g : ℕ) (job : JobData) (is_job : IsJob job) where
  -- none is newer than the step in which it settled
  pub last_settled : (t p : ℕ) → job.cells ≤ p →
      last_landing (Wide g) job t p ≤ settled_at job t (owner job p)
  last_settled zero p high = unfold last_landing in omega arith
  last_settled (suc s) p high = elim (landing_cases (Wide g) job is_job s p) [
    | inl l ↦ (let e = l.last in let k = last_settled s p high in
        let m = settled_rises job (owner job p) s (suc s) (omega arith) in
        omega (arith, e, k, m))
    | inr w ↦ (
        let does = landing_true (Wide g) job s p _ _ w.written.lands in
        let new = settled_new job (owner job p) s
        (own_settles job s p (sym (lands_above g job s p high) ∙ does)) in
        let e = w.last in omega (arith, e, new))
  ]

  pub own_last : (t i p : ℕ) → i < job.procs → IsOwn job i p →
      last_landing (Wide g) job t p ≤ settled_at job t i
  own_last t i p proc own =
      let k = own_is job i p proc own in
      subst (λ (j : ℕ). last_landing (Wide g) job t p ≤ settled_at job t j) k.owner
      (last_settled t p k.above)

  -- a place that tells the step in which its processor settles, or is changed
  tells_lands : (s p : ℕ) → job.cells ≤ p → settles job s (owner job p) ≡ true →
      tells_step job s p ≡ true → lands (Wide g) job s p ≡ true
  tells_lands s p high does tells =
      lands_above g job s p high ∙ and_from _ _ does (or_left _ _ tells)

  changed_lands : (s p : ℕ) → job.cells ≤ p → settles job s (owner job p) ≡ true →
      is_changed job s p ≡ true → lands (Wide g) job s p ≡ true
  changed_lands s p high does changed =
      lands_above g job s p high ∙ and_from _ _ does (or_right _ _ changed)

  module _ (i : ℕ) (proc : i < job.procs) where
    abbrev Loads : ℕ → Bool
    Loads s = loads_next job (own_at job s i)

    -- and there is such a cell
    abbrev Reads : ℕ → Bool
    Reads s = is_some (cell_next job (own_at job s i))

    abbrev LandsOne : ℕ → Type 0
    LandsOne s = (p : ℕ) × IsOwn job i p × (lands (Wide g) job s p ≡ true)

    reads_by : (s p : ℕ) (b : Bool) → owner job p ≡ i → Reads s ≡ b →
        is_some (cell_next job (own_at job s (owner job p))) ≡ b
    reads_by s p b is e =
        subst (λ (j : ℕ). is_some (cell_next job (own_at job s j)) ≡ b) (sym is) e

    settles_by : (s p : ℕ) → owner job p ≡ i → settles job s i ≡ true →
        settles job s (owner job p) ≡ true
    settles_by s p is does = subst (λ (j : ℕ). settles job s j ≡ true) (sym is) does

    -- the register takes what is read
    register_lands : (s : ℕ) → settles job s i ≡ true → Reads s ≡ true →
        GivesRegister job i (request_in job (state_after job s) i) → LandsOne s
    register_lands s does reads given =
        let state = state_after job s in
        let r = given.0 in
        let v = given.1 in
        let low : r < 4 = given.2 in
        let p = register_place job i r in
        let own : IsOwn job i p = inl (r, low, refl) in
        let k = own_is job i p proc own in
        let away : p ≡ counter_place job i → ⊥ = λ e. absurd (omega (arith, e, low, proc)) in
        let asked : Asks job s p i v = record {
          request = request_in job state i;
          request_is = asks job state i proc;
          writes = written_of_put job p i v (request_in job state i) away given.3;
        } in
        let tells : tells_step job s p ≡ true = cond-false (is_counter job p) _ _
        (register_below job p (omega (arith, low, proc)))
        ∙ and_from _ _ (reads_by s p true k.owner reads) (asked_written job s p i v asked) in
        (p, own, tells_lands s p k.above (settles_by s p k.owner does) tells)

    -- there is no such cell: the counter is what it was in no step before
    stop_lands : (s : ℕ) → settles job s i ≡ true → Loads s ≡ true →
        (request_in job (state_after job s) i).next ≡ out_of_range job → LandsOne s
    stop_lands s does loads next =
        let p = counter_place job i in
        let own : IsOwn job i p = inr refl in
        let k = own_is job i p proc own in
        let last = settled_at job s (owner job p) in
        let before = runs_before job i last s is_job proc (settled_most job (owner job p) s)
        (load_runs job (state_after job s) i loads) in
        let later : suc s ≡ s + 1 = omega arith in
        let now : slice_index (state_after job (suc s)) p ≡ out_of_range job =
        ap (λ (n : ℕ). slice_index (state_after job n) p) later
        ∙ counter_next job s i is_job proc ∙ next in
        let changed : is_changed job s p ≡ true = not_from_false _
        (ne_eqb (slice_index (state_after job (suc s)) p) (slice_index (state_after job last) p)
        (λ e. absurd (omega (arith, e, now, before)))) in
        (p, own, changed_lands s p k.above (settles_by s p k.owner does) changed)

    counter_lands : (s : ℕ) → settles job s i ≡ true → Reads s ≡ false → LandsOne s
    counter_lands s does none =
        let p = counter_place job i in
        let own : IsOwn job i p = inr refl in
        let k = own_is job i p proc own in
        let tells : tells_step job s p ≡ true = cond-true (is_counter job p) _ _ (counter_is job i)
        ∙ not_from_false _ (reads_by s p false k.owner none) in
        (p, own, tells_lands s p k.above (settles_by s p k.owner does) tells)

    -- in each step in which it settles one of them lands
    pub one_lands : (s : ℕ) → settles job s i ≡ true → LandsOne s
    one_lands s does = elim (cases_Bool (Reads s)) [
      | inr none ↦ counter_lands s does none
      | inl reads ↦ elim (cases_Bool (Loads s)) [
        | inl loads ↦ elim (load_gives job (state_after job s) i is_job loads) [
          | inl given ↦ register_lands s does reads given
          | inr next ↦ stop_lands s does loads next
        ]
        | inr other ↦ absurd (let none = none_next job i s is_job (own_at job s i) other in
            false≢true (sym (ap is_some none) ∙ reads))
      ]
    ]

    -- and one is as new
    pub newest : (t : ℕ) →
        (p : ℕ) × IsOwn job i p × (last_landing (Wide g) job t p ≡ settled_at job t i)
    newest t = by (settled_at job t i) refl
      where
        by : (l : ℕ) → settled_at job t i ≡ l →
            (p : ℕ) × IsOwn job i p × (last_landing (Wide g) job t p ≡ settled_at job t i)
        by zero e =
            let m = own_last t i (counter_place job i) proc (inr refl) in
            (counter_place job i, inr refl, omega (arith, m, e))
        by (suc s) e =
            let was = settled_is job i t s e in
            let one = one_lands s was.0 in
            let p = one.0 in
            let landed = has_landing (Wide g) job s p one.2 in
            let low = last_least (Wide g) job is_job t p s was.1 landed in
            let m = own_last t i p proc one.1 in
            (p, one.1, omega (arith, low, m, e))
