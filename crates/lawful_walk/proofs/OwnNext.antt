-- What is a processor's own, its counter and its registers, from step to step in the machine's run.
use Rattle.std.proofs.Common.{◌≡◌, ℕ, suc, ◌-◌, ◌<◌, ◌≤◌, length, true, false}
use Rattle.std.proofs.Common.{map, slice_index, slice_get, get_or-set_same, Option, Some, None}
use Rattle.std.proofs.Common.{refl, sym, ap, subst, ◌∙◌, inl, inr, arith}
use Rattle.std.specs.Prelude.{slice_set}
use Rattle.std.proofs.lemmas.Bool.{cases_eq, cases_lt, lt-ltb, le-ltb}
use Rattle.std.proofs.lemmas.List.{ext_get_or, get_or-set_other, length-set}
use Rattle.std.proofs.lemmas.Option.{none-some, some_pair_parts}
use Rattle.pram_job.specs.Job.{JobData, IsJob}
use Rattle.pram_job.specs.declared.instr.Instr.{Instr}
use Rattle.pram_job.specs.declared.instr.Operands.{Operands}
use Rattle.pram_job.specs.declared.instr.Operands.TheVariants.{Bare, Target, TargetNumber}
use Rattle.pram_job.specs.declared.instr.Operands.TheVariants.{TargetPlace, TargetTwo, PlaceValue}
use Rattle.pram_job.specs.declared.instr.Operands.TheVariants.{RegisterIndex, Index}
use Rattle.pram_job.specs.Instructions.{row_of}
use Rattle.pram_machine.specs.declared.requests.Request.{Request}
use Rattle.pram_machine.specs.Instructions.{cell_of, computed, decided, decided_in, gives, goes_to}
use Rattle.pram_machine.specs.Instructions.{request_with, within}
use Rattle.pram_machine.specs.Instructions.{request_in}
use Rattle.pram_machine.specs.Machine.{counter, out_of_range, register, register_place}
use Rattle.pram_machine.proofs.Shapes.{asks, request_place}
use Rattle.pram_step.specs.History.{Asks}
use Rattle.pram_step.specs.Runs.{state_after}
use Rattle.pram_step.specs.Runs as runs
use Rattle.pram_step.proofs.LawCounters.{counter_next}
use Rattle.pram_step.proofs.LawFixed.{length-state_after}
use Rattle.pram_step.proofs.LawNext.{after_first, after_none}
use Rattle.pram_step.proofs.LawPlaces.{one_writer_value, writer_is, writes_place}
use Rattle.pram_step.proofs.LawWriters.{writer_cases}
use Rattle.pram_step.proofs.RequestList.{written_cases, written_of_put}
use Rattle.walk_memory.specs.Memory.{all_registers, asked, is_load, is_load_row, loads_next}
use Rattle.walk_memory.specs.Memory.{own_after, own_at, registers_after}
use Rattle.walk_memory.specs.OwnWrites.{cell_write}
use Rattle.lawful_walk.proofs.Alone.{alone_is, one_of}

-- ---- a load stores nothing

module _ (job : JobData) (i : ℕ) where
  load_row : (c a b v : ℕ) (computes : ℕ → ℕ → Option ℕ) (row : Operands) →
      is_load_row row ≡ true →
      cell_write job (request_with job i c computes row a b v).put ≡ None
  load_row c a b v computes Bare loads = absurd (cc)
  load_row c a b v computes (Target r) loads = absurd (cc)
  load_row c a b v computes (TargetNumber r k) loads = absurd (cc)
  load_row c a b v computes (TargetPlace r place) loads = by (cell_of job place a)
    where
      by : (o : Option ℕ) → cell_write job
          (within o (out_of_range job) (λ cell. gives job i c r v)).put ≡ None
      by None = refl
      by (Some cell) = rw (le-ltb (register_place job i r) job.cells (omega arith)) refl
  load_row c a b v computes (TargetTwo r s d) loads = absurd (cc)
  load_row c a b v computes (PlaceValue place d) loads = absurd (cc)
  load_row c a b v computes (RegisterIndex r index) loads = absurd (cc)
  load_row c a b v computes (Index index) loads = absurd (cc)

  -- its request by the instruction at its counter
  abbrev request_of : ℕ → Option Instr → Request
  request_of x o = elim o [
    | None ↦ goes_to (counter job (state_after job x) i)
    | Some instr ↦ decided_in job (state_after job x) i instr
  ]

  pub load_stores : (x : ℕ) → loads_next job (own_at job x i) ≡ true →
      cell_write job (request_in job (state_after job x) i).put ≡ None
  unfolding request_in decided
  load_stores x loads = by (slice_get job.code (counter job (state_after job x) i)) refl loads
    where
      by : (o : Option Instr) → slice_get job.code (counter job (state_after job x) i) ≡ o →
          is_load o ≡ true → cell_write job (request_of x o).put ≡ None
      by None e loads = refl
      by (Some instr) e loads = load_row (counter job (state_after job x) i) _ _ _
          (computed instr) (row_of instr).1 loads

-- ---- after the step

module _ (job : JobData) (i x : ℕ) (limits : IsJob job) (proc : i < job.procs) where
  -- a register that the processor writes, and one that it does not
  written_next : (p v : ℕ) → job.cells ≤ p → p < length (state_after job x) → Asks job x p i v →
      slice_index (state_after job (suc x)) p ≡ v
  unfolding runs.state_after
  written_next p v own there asked = elim (writer_cases job (runs.requests_after job x) p) [
    | inl none ↦ absurd (none.none i v asked)
    | inr first ↦ after_first job (runs.requests_after job x) (state_after job x) p first.value
        there first.found
        ∙ one_writer_value job (state_after job x) p first.writer i first.value v limits own
        first.first.writes asked
  ]

  kept_next : (p : ℕ) → p < length (state_after job x) →
      ((j v : ℕ) → Asks job x p j v → ⊥) →
      slice_index (state_after job (suc x)) p ≡ slice_index (state_after job x) p
  unfolding runs.state_after
  kept_next p there none = elim (writer_cases job (runs.requests_after job x) p) [
    | inl none_at ↦ after_none job (runs.requests_after job x) (state_after job x) p there
        none_at.found
    | inr first ↦ absurd (none first.writer first.value first.first.writes)
  ]

  -- only the processor writes its registers, and by its data alone
  pub register_put : (r j v : ℕ) → r < 4 → Asks job x (register_place job i r) j v →
      (request_in job (state_after job x) i).put ≡ Some (register_place job i r, v)
  register_put r j v low asked =
      let p = register_place job i r in
      let at = writes_place job (state_after job x) p j v limits asked in
      let mine : j ≡ i = elim at.1 [
        | inl c ↦ absurd (omega (arith, c, low, proc, at.0))
        | inr d ↦ elim d [
          | inl c ↦ absurd (omega (arith, c))
          | inr o ↦ omega (arith, o.0, o.1, low)
        ]
      ] in
      let asked_here : Asks job x p i v = subst (λ (k : ℕ). Asks job x p k v) mine asked in
      elim (written_cases job p i v (request_in job (state_after job x) i)
      (writer_is job (state_after job x) p i v asked_here).1) [
        | inl c ↦ absurd (let e = c.0 in omega (arith, e, low, proc))
        | inr e ↦ e
      ]

  pub register_asks : (r v : ℕ) → r < 4 →
      (request_in job (state_after job x) i).put ≡ Some (register_place job i r, v) →
      Asks job x (register_place job i r) i v
  register_asks r v low e = record {
    request = request_in job (state_after job x) i;
    request_is = asks job (state_after job x) i proc;
    writes = written_of_put job (register_place job i r) i v (request_in job (state_after job x) i)
        (λ c. absurd (omega (arith, c, low, proc))) e;
  }

  place_there : (r : ℕ) → r < 4 → register_place job i r < length (state_after job x)
  place_there r low =
      let len = length-state_after job x limits in omega (arith, len, low, proc)

  -- a register after the step, by what the processor writes
  register_next : (o : Option (ℕ × ℕ)) → (request_in job (state_after job x) i).put ≡ o →
      (r : ℕ) → r < 4 →
      slice_index (registers_after job i (own_at job x i).registers o) r
      ≡ register job (state_after job (suc x)) i r
  register_next None e r low = one_of (register job (state_after job x) i) r low
      ∙ sym (kept_next (register_place job i r) (place_there r low)
      (λ j v asked. none-some (register_place job i r, v) (sym e ∙ register_put r j v low asked)))
  register_next (Some w) e r low = elim (cases_lt w.0 job.cells) [
    | inl cell ↦ rw (lt-ltb w.0 job.cells cell) (
        one_of (register job (state_after job x) i) r low
        ∙ sym (kept_next (register_place job i r) (place_there r low) (λ j v asked.
        absurd (let same = put_parts w (register_place job i r, v)
        (sym e ∙ register_put r j v low asked) in omega (arith, same.0, cell)))))
    | inr own ↦ rw (le-ltb w.0 job.cells own) (by own)
  ]
    where
      put_parts : (a b : ℕ × ℕ) → Some a ≡ Some b → (a.0 ≡ b.0) × (a.1 ≡ b.1)
      put_parts a b same = some_pair_parts a.0 b.0 a.1 b.1 same

      by : job.cells ≤ w.0 →
          slice_index (slice_set (own_at job x i).registers (w.0 - register_place job i 0) w.1) r
          ≡ register job (state_after job (suc x)) i r
      by own = elim (request_place job (state_after job x) i w.0 w.1 limits e) [
        | inl cell ↦ absurd (omega (arith, cell, own))
        | inr there ↦ elim (cases_eq (w.0 - register_place job i 0) r) [
          | inl same ↦ (
              let at : w.0 ≡ register_place job i r = omega (arith, same, there.0) in
              let asked = register_asks r w.1 low (e ∙ ap (λ (p : ℕ). Some (p, w.1)) at) in
              rw same (get_or-set_same (own_at job x i).registers r w.1 0 low)
              ∙ sym (written_next (register_place job i r) w.1 (omega arith) (place_there r low)
              asked))
          | inr other ↦
              get_or-set_other (own_at job x i).registers (w.0 - register_place job i 0) r w.1 0
              (λ e. other (sym e))
              ∙ one_of (register job (state_after job x) i) r low
              ∙ sym (kept_next (register_place job i r) (place_there r low) (λ j v asked.
              absurd (let same = put_parts w (register_place job i r, v)
              (sym e ∙ register_put r j v low asked) in
              let at = same.0 in other (omega (arith, at)))))
        ]
      ]

  registers_len : (o : Option (ℕ × ℕ)) →
      length (registers_after job i (own_at job x i).registers o) ≡ 4
  registers_len None = refl
  registers_len (Some w) = elim (cases_lt w.0 job.cells) [
    | inl cell ↦ rw (lt-ltb w.0 job.cells cell) refl
    | inr own ↦ rw (le-ltb w.0 job.cells own)
        (length-set (own_at job x i).registers (w.0 - register_place job i 0) w.1)
  ]

  registers_next :
      registers_after job i (own_at job x i).registers (request_in job (state_after job x) i).put
      ≡ (own_at job (suc x) i).registers
  registers_next =
      let o = (request_in job (state_after job x) i).put in
      let registers = (own_at job x i).registers in
      ext_get_or 0 (registers_after job i registers o)
      (map (register job (state_after job (suc x)) i) all_registers) (registers_len o)
      (λ r less. let low : r < 4 = omega (arith, less, registers_len o) in
      register_next o refl r low
      ∙ sym (one_of (register job (state_after job (suc x)) i) r low))

  counter_after : (request_in job (state_after job x) i).next
      ≡ counter job (state_after job (suc x)) i
  counter_after = sym (subst (λ (t : ℕ). counter job (state_after job t) i
      ≡ (request_in job (state_after job x) i).next) (omega arith)
      (counter_next job x i limits proc))

  -- what is its own after the step
  pub own_next : own_after job i (own_at job x i) (request_in job (state_after job x) i)
      ≡ own_at job (suc x) i
  own_next = rw (counter_after, registers_next) refl

  -- where it loads nothing, it goes on alone
  pub own_next_alone : loads_next job (own_at job x i) ≡ false →
      own_after job i (own_at job x i) (asked job i (own_at job x i) 0) ≡ own_at job (suc x) i
  own_next_alone none =
      ap (own_after job i (own_at job x i)) (alone_is job i x limits none) ∙ own_next
