-- Which words a processor's own places get in a step, as a worker works it out from what it knows.
use Rattle.std.proofs.Common.{◌≡◌, ℕ, suc, ◌<◌, ◌==◌, ◌&&◌, ◌||◌}
use Rattle.std.proofs.Common.{Bool, true, slice_index, Option, Some, None}
use Rattle.std.proofs.Common.{refl, sym, ap, subst, ◌∙◌, inl, inr, arith}
use Rattle.std.specs.Prelude.{if◌then◌else◌, is_some, not}
use Rattle.std.proofs.lemmas.Bool.{eq-eqb}
use Rattle.std.proofs.lemmas.Bool.{eqb-true, false_from_ne_true}
use Rattle.pram_job.specs.Job.{JobData, IsJob}
use Rattle.pram_machine.specs.declared.requests.Request.{Request}
use Rattle.pram_machine.specs.Instructions.{request_in}
use Rattle.pram_machine.specs.Machine.{counter_place, register}
use Rattle.pram_machine.specs.Machine.{register_place}
use Rattle.pram_step.specs.Runs.{requests_after, state_after}
use Rattle.pram_step.proofs.LawWriters.{writer_cases}
use Rattle.walk_memory.specs.declared.memo.Memo.{Memo}
use Rattle.walk_memory.specs.declared.memo.Own.{Own}
use Rattle.walk_memory.specs.Memory.{IsTrueMemo, cell_next, own_after, own_at, settled_at}
use Rattle.std.specs.Prelude.{is_some}
use Rattle.walkx.specs.Passes.{is_put_to, lands_counter, lands_register}
use Rattle.lawful_walk.specs.Lands.{is_changed, is_counter, is_written, owner, tells_step}
use Rattle.lawful_walk.proofs.Newest.{counter_is, own_is, owner_counter, register_below}
use Rattle.lawful_walk.proofs.Alone.{one_of}
use Rattle.lawful_walk.proofs.OwnNext.{own_next, register_asks, register_put}

-- ---- what a worker that knows it works out

module _ (job : JobData) (i x : ℕ) (limits : IsJob job) (proc : i < job.procs) (known : Memo)
    (is_true : IsTrueMemo job i known) (at : known.step ≡ x) where
  abbrev R : Request
  R = request_in job (state_after job x) i

  pub own_here : known.own ≡ own_at job x i
  own_here = is_true.own ∙ ap (λ (t : ℕ). own_at job t i) at

  pub told_here : known.told ≡ own_at job (settled_at job x i) i
  told_here = is_true.told ∙ ap (λ (t : ℕ). own_at job (settled_at job t i) i) at

  pub own_then : own_after job i known.own R ≡ own_at job (suc x) i
  own_then = ap (λ (own : Own). own_after job i own R) own_here ∙ own_next job i x limits proc

  -- whether the place tells the step, or is no longer what its words tell
  abbrev pub Due : ℕ → Bool
  Due p = tells_step job x p || is_changed job x p

  pub value_register : (r : ℕ) → r < 4 → slice_index (own_after job i known.own R).registers r
      ≡ slice_index (state_after job (suc x)) (register_place job i r)
  value_register r low = ap (λ (own : Own). slice_index own.registers r) own_then
      ∙ one_of (register job (state_after job (suc x)) i) r low

  pub value_counter : R.next ≡ slice_index (state_after job (suc x)) (counter_place job i)
  value_counter = ap (λ (own : Own). own.counter) own_then

  -- a register

  is_put : (r : ℕ) → r < 4 →
      is_put_to (register_place job i r) R.put ≡ is_written job x (register_place job i r)
  is_put r low = elim (writer_cases job (requests_after job x) (register_place job i r)) [
    | inl none ↦ false_from_ne_true (is_put_to p R.put) (λ e.
        let put = put_of R.put e in
        none.none i put.0 (register_asks job i x limits proc r put.0 low put.1))
        ∙ sym (ap is_some none.found)
    | inr first ↦ ap (is_put_to p)
        (register_put job i x limits proc r first.writer first.value low first.first.writes)
        ∙ eq-eqb p p refl ∙ sym (ap is_some first.found)
  ]
    where
      p : ℕ
      p = register_place job i r

      put_of : (o : Option (ℕ × ℕ)) → is_put_to p o ≡ true → (v : ℕ) × (o ≡ Some (p, v))
      put_of None e = absurd (cc)
      put_of (Some write) e =
          (write.1, ap (λ (q : ℕ). Some (q, write.1)) (eqb-true write.0 p e))

  -- it is owned
  abbrev AtOwner : ℕ → ℕ → Type 0
  AtOwner p j = Due p ≡ ((if is_counter job p then not (is_some (cell_next job (own_at job x j)))
      else is_some (cell_next job (own_at job x j)) && is_written job x p)
      || not (slice_index (state_after job (suc x)) p
      == slice_index (state_after job (settled_at job x j)) p))

  at_owner : (p : ℕ) → owner job p ≡ i → AtOwner p i
  at_owner p is = subst (AtOwner p) is refl

  pub register_due : (r : ℕ) → r < 4 →
      lands_register job i known R r ≡ Due (register_place job i r)
  register_due r low =
      let p = register_place job i r in
      let owned = at_owner p (own_is job i p proc (inl (r, low, refl))).owner in
      let told : slice_index known.told.registers r
      ≡ slice_index (state_after job (settled_at job x i)) p =
      ap (λ (own : Own). slice_index own.registers r) told_here
      ∙ one_of (register job (state_after job (settled_at job x i)) i) r low in
      rw (
        value_register r low,
        told,
        is_put r low,
        ap (λ (own : Own). is_some (cell_next job own)) own_here,
      )
      (sym (owned ∙ rw (register_below job p (omega (arith, proc, low))) refl))

  pub counter_due : lands_counter job known R ≡ Due (counter_place job i)
  counter_due =
      let p = counter_place job i in
      let owned = at_owner p (owner_counter job i) in
      let told : known.told.counter ≡ slice_index (state_after job (settled_at job x i)) p =
      ap (λ (own : Own). own.counter) told_here in
      rw (value_counter, told, ap (λ (own : Own). is_some (cell_next job own)) own_here)
      (sym (owned ∙ rw (counter_is job i) refl))
