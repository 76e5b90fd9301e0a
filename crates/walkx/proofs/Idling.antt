-- A task of the wide form asks something, whatever follows it, or nothing.
use Rattle.std.proofs.Common.{◌≡◌, ℕ, suc, ◌==◌, List, [], ◌∷◌, Option, Some, None}
use Rattle.std.proofs.Common.{refl, inl, inr}
use Rattle.std.proofs.lemmas.Bool.{cases_Bool, lt-ltb}
use Rattle.pram_job.specs.declared.instr.Rule.{Rule}
use Rattle.pram_job.specs.declared.instr.Rule.TheVariants.{Common, Priority, Crew}
use Rattle.pram_job.specs.Job.{JobData}
use Rattle.pram_machine.specs.declared.requests.Request.{Request}
use Rattle.pram_machine.specs.Machine.{counter_place}
use Rattle.pram_words.specs.declared.phases.Kind.{Kind}
use Rattle.pram_words.specs.declared.phases.Kind.TheVariants.{Compute, Apply, Verify}
use Rattle.pram_words.specs.declared.words.Word.TheVariants.{Claim, Stored}
use Rattle.pram_words.specs.Phases.{phase_of}
use Rattle.pram_words.specs.Stamps.{stamped_word}
use Rattle.pram_words.specs.Words.{LayoutData, number_of}
use Rattle.walk_memory.specs.declared.memo.Memo.{Memo}
use Rattle.walkx.specs.declared.operation.Op.{Op}
use Rattle.walkx.specs.declared.operation.Op.TheVariants.{Load, Max}
use Rattle.walk_memory.specs.Memory.{asked, at_start, cell_next, has_store, is_past}
use Rattle.walk_memory.specs.OwnWrites.{cell_write}
use Rattle.walkx.specs.Passes.{carry_task, claims_store, computes_own, crew_carry_task, if_write}
use Rattle.walkx.specs.Passes.{knows, landings, own_claim_task, own_task, priority_carry_task}
use Rattle.walkx.specs.Passes.{stores, wide_task_of, writes_each, writes_own}
use Rattle.walk_memory.specs.Learned.{memo_after}
use Rattle.walkx.specs.Scripts.{Script, ends, first_op}
use Rattle.walkx.specs.Tasks.{claim_of, reads_cell}
use Rattle.walkx.specs.Walk.{Then}
use Rattle.walk_memory.proofs.Puts.{cell_put_is}

-- two scripts ask the same first, or come to the same
pub data Alike (after : Memo → Script Then) (s : Script Memo) (t : Script Then) : Type 0 where
  asks_first : (op : Op) → first_op s ≡ Some op → first_op t ≡ Some op → Alike after s t
  comes_at_once : (learned : Memo) → s ≡ ends learned → t ≡ after learned → Alike after s t

module _ (job : JobData) (y : LayoutData) (t i : ℕ) (after : Memo → Script Then) where
  abbrev A : Script Memo → Script Then → Type 0
  A s u = Alike after s u

  each_alike : (writes : List (ℕ × ℕ)) (learned : Memo) →
      A (writes_each y t writes (ends learned)) (writes_each y t writes (after learned))
  each_alike [] learned = comes_at_once learned refl refl
  each_alike (w ∷ writes) learned = asks_first (Load (number_of y (Stored w.0 0))) refl refl

  own_alike : (known : Memo) (r : Request) (learned : Memo) →
      A (writes_own job y t i known r (ends learned)) (writes_own job y t i known r (after learned))
  own_alike known r learned = each_alike (landings job t i known r) learned

  claim_alike : (known : Memo) (r : Request) (learned : Memo) (o : Option (ℕ × ℕ)) →
      cell_write job r.put ≡ o →
      A (claims_store job y t i r (writes_own job y t i known r (ends learned)))
      (claims_store job y t i r (writes_own job y t i known r (after learned)))
  claim_alike known r learned None e = rw e (own_alike known r learned)
  claim_alike known r learned (Some w) e =
      let cell = lt-ltb w.0 job.cells (cell_put_is job r.put w.0 w.1 e).1 in
      asks_first (Max (number_of y (Claim w.0)) (stamped_word t (claim_of job i)))
      (rw (e, cell) refl) (rw (e, cell) refl)

  reads_alike : (o : Option ℕ) (late : Script Memo) (ended : Script Then) (f : ℕ → Script Memo)
      (g : ℕ → Script Then) → A (f 0) (g 0) → A (reads_cell y t o late f) (reads_cell y t o ended g)
  reads_alike None late ended f g each = each
  reads_alike (Some c) late ended f g each =
      asks_first (Load (number_of y (Stored c 0))) refl refl

  knows_alike : (memo : Memo) (late : Script Memo) (ended : Script Then)
      (f : Memo → Script Memo) (g : Memo → Script Then) → A (f memo) (g memo) →
      A (knows job y t i memo late f) (knows job y t i memo ended g)
  knows_alike memo late ended f g each = elim (cases_Bool (suc memo.step == t)) [
    | inl e ↦ rw e each
    | inr e ↦ asks_first (Load (number_of y (Stored (counter_place job i) 0))) (rw e refl)
        (rw e refl)
  ]

  computes_alike : (memo : Memo) (f : Memo → Request → Script Memo)
      (g : Memo → Request → Script Then) →
      ((r : Request) → A (f memo r) (g memo r)) →
      A (computes_own job y t i memo (λ m. ends m) f) (computes_own job y t i memo after g)
  computes_alike memo f g each = elim (cases_Bool (is_past (phase_of t Compute) memo)) [
    | inl past ↦ comes_at_once memo (rw past refl) (rw past refl)
    | inr left ↦ rw left (knows_alike memo (ends memo) (after memo)
        (λ known. reads_cell y t (cell_next job known.own) (ends at_start)
        (λ value. f known (asked job i known.own value)))
        (λ known. reads_cell y t (cell_next job known.own) (after at_start)
        (λ value. g known (asked job i known.own value)))
        (reads_alike (cell_next job memo.own) (ends at_start) (after at_start)
        (λ value. f memo (asked job i memo.own value))
        (λ value. g memo (asked job i memo.own value))
        (each (asked job i memo.own 0))))
  ]

  own_task_alike : (memo : Memo) →
      A (own_task job y t i memo (λ m. ends m)) (own_task job y t i memo after)
  unfolding own_task
  own_task_alike memo = computes_alike memo
      (λ known r. writes_own job y t i known r (ends (memo_after job t i known r)))
      (λ known r. writes_own job y t i known r (after (memo_after job t i known r)))
      (λ r. own_alike memo r (memo_after job t i memo r))

  own_claim_alike : (memo : Memo) →
      A (own_claim_task job y t i memo (λ m. ends m)) (own_claim_task job y t i memo after)
  unfolding own_claim_task
  own_claim_alike memo = computes_alike memo
      (λ known r. claims_store job y t i r
      (writes_own job y t i known r (ends (memo_after job t i known r))))
      (λ known r. claims_store job y t i r
      (writes_own job y t i known r (after (memo_after job t i known r))))
      (λ r. claim_alike memo r (memo_after job t i memo r) (cell_write job r.put) refl)

  stores_alike : (memo : Memo) (f : ℕ → ℕ → Script Memo) (g : ℕ → ℕ → Script Then) →
      ((c v : ℕ) → A (f c v) (g c v)) →
      A (stores job y t i memo (ends memo) f) (stores job y t i memo (after memo) g)
  stores_alike memo f g each = elim (cases_Bool (is_past (phase_of t Verify) memo)) [
    | inl past ↦ comes_at_once memo (rw past refl) (rw past refl)
    | inr left ↦ elim (cases_Bool (has_store t memo)) [
      | inl e ↦ rw (left, e) (kept memo.store)
      | inr e ↦ asks_first (Load (number_of y (Stored (counter_place job i) 0)))
          (rw (left, e) refl) (rw (left, e) refl)
    ]
  ]
    where
      kept : (o : Option (ℕ × ℕ)) → A (if_write o (ends memo) f) (if_write o (after memo) g)
      kept None = comes_at_once memo refl refl
      kept (Some w) = each w.0 w.1

  pub task_alike : (rule : Rule) (kind : Kind) (memo : Memo) →
      A (wide_task_of rule kind job y t i memo (λ m. ends m))
      (wide_task_of rule kind job y t i memo after)
  unfolding wide_task_of carry_task crew_carry_task priority_carry_task
  task_alike Common Compute memo = own_task_alike memo
  task_alike Priority Compute memo = own_claim_alike memo
  task_alike Crew Compute memo = own_claim_alike memo
  task_alike Common Verify memo =
      stores_alike memo _ _ (λ c v. asks_first (Load (number_of y (Stored c 0))) refl refl)
  task_alike Priority Verify memo =
      stores_alike memo _ _ (λ c v. asks_first (Load (number_of y (Claim c))) refl refl)
  task_alike Crew Verify memo =
      stores_alike memo _ _ (λ c v. asks_first (Load (number_of y (Claim c))) refl refl)
  task_alike rule Apply memo = comes_at_once memo (none rule) (none_then rule)
    where
      none : (r : Rule) → wide_task_of r Apply job y t i memo (λ m. ends m) ≡ ends memo
      none Common = refl
      none Priority = refl
      none Crew = refl

      none_then : (r : Rule) → wide_task_of r Apply job y t i memo after ≡ after memo
      none_then Common = refl
      none_then Priority = refl
      none_then Crew = refl
