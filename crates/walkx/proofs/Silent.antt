-- Where a task asks nothing, no step is made.
use Rattle.std.proofs.Common.{◌≡◌, ℕ, suc, ◌==◌, Bool, true, false, Option, Some, None}
use Rattle.std.proofs.Common.{slice_get}
use Rattle.std.proofs.Common.{refl, sym, subst, ◌∙◌, inl, inr}
use Rattle.std.specs.Prelude.{◌||◌, is_some}
use Rattle.std.proofs.lemmas.Bool.{cases_Bool, cases_eq, eq-eqb, ne_eqb}
use Rattle.pram_job.specs.declared.instr.Instr.{Instr}
use Rattle.pram_machine.specs.declared.requests.Request.{Request}
use Rattle.pram_machine.specs.Instructions.{goes_to}
use Rattle.pram_words.specs.declared.phases.Kind.TheVariants.{Compute, Verify}
use Rattle.pram_words.specs.Phases.{kind_at}
use Rattle.walk_memory.specs.declared.memo.Memo.{Memo}
use Rattle.walk_memory.specs.Inner.Posts.{PostData, step_of}
use Rattle.walk_memory.specs.Memory.{cell_named, is_due, is_load, is_past, settles_in}
use Rattle.walkx.specs.Passing.{Passes, idle_in, if_so}
use Rattle.walkx.specs.WideParts.{asked_with, claimed_cell, learned}
use Rattle.walkx.proofs.FirstPass.{reads_none}
use Rattle.walk_memory.proofs.GoingAlone.{settles_by}
use Rattle.walkx.proofs.Resting.{claim_asks, decided_rests, none_of, not_past, past_rests}
use Rattle.walkx.proofs.Resting.{reads_ask}
use Rattle.walkx.proofs.Resting.{second_is, settles_ask, some_of, stopped_rests, unknown_asks}
use Rattle.walk_memory.proofs.Timing.{compute_is, verify_is}

module _ (at : PostData) (memo : Memo) (instr : Instr) (before : suc memo.step ≡ step_of at)
    (some : slice_get at.job.code memo.own.counter ≡ Some instr) where
  -- it settles
  pub settling_asks : (is_load (Some instr) || is_due memo.settled (step_of at)) ≡ true →
      idle_in Compute at memo ≡ None
  settling_asks is = by (cell_named at.job memo.own (Some instr)) refl
    where
      by : (o : Option ℕ) → cell_named at.job memo.own (Some instr) ≡ o →
          idle_in Compute at memo ≡ None
      by None none = settles_ask at memo instr before some none
          (settles_by at.job memo.own instr some (step_of at) memo.settled ∙ is)
      by (Some cell) reads = reads_ask at memo instr cell (not_past memo (step_of at) before)
          (eq-eqb (suc memo.step) (step_of at) before) some reads

  -- it does not
  module _ (lags : (is_load (Some instr) || is_due memo.settled (step_of at)) ≡ false) (request : Request)
      (is : request ≡ asked_with at memo (Some instr) 0) (o : Option ℕ)
      (claims : o ≡ claimed_cell at.job.rule at.job request) where
    none : cell_named at.job memo.own (Some instr) ≡ None
    none = reads_none at.job memo.own instr
        (no_load (is_load (Some instr)) (is_due memo.settled (step_of at)) lags)
      where
        no_load : (a b : Bool) → (a || b) ≡ false → a ≡ false
        no_load true b e = absurd (cc)
        no_load false b e = refl

    pub settles_not : false ≡ settles_in at.job (step_of at) memo.settled memo.own
    settles_not = sym (settles_by at.job memo.own instr some (step_of at) memo.settled ∙ lags)

    pub claiming_asks : is_some o ≡ true → idle_in Compute at memo ≡ None
    claiming_asks there =
        let cell = some_of o there in
        claim_asks at memo instr before some none cell.0
        (subst (λ (r : Request). claimed_cell at.job.rule at.job r ≡ Some cell.0) is
        (sym claims ∙ cell.1))

    pub lagging_rests : is_some o ≡ false → idle_in Compute at memo ≡ Some (learned at memo request)
    lagging_rests there =
        subst (λ (r : Request). idle_in Compute at memo ≡ Some (learned at memo r)) (sym is)
        (decided_rests at memo instr before some none (sym settles_not)
        (subst (λ (r : Request). claimed_cell at.job.rule at.job r ≡ None) is
        (sym claims ∙ none_of o there)))

-- so no step is made
module _ {D : Type 0} (at : PostData) (memo : Memo) (old new : D) (known : Memo) where
  abbrev First : Type 0
  First = Passes (idle_in Compute at memo) old new known

  abbrev Second : Type 0
  Second = Passes (idle_in Verify at memo) old new known

  -- it is past, or not known before the step
  pub where_past : kind_at at.phase ≡ Compute → is_past at.phase memo ≡ true → known ≡ memo →
      new ≡ old → First
  where_past first past same still =
      rw (past_rests at memo (subst (λ (q : ℕ). is_past q memo ≡ true) (compute_is at.phase first)
      past)) (same, still)

  pub where_known : kind_at at.phase ≡ Compute → is_past at.phase memo ≡ false →
      (suc memo.step ≡ step_of at → First) → First
  where_known first past each = elim (cases_eq (suc memo.step) (step_of at)) [
    | inl is ↦ each is
    | inr other ↦ rw (unknown_asks at memo
        (subst (λ (q : ℕ). is_past q memo ≡ false) (compute_is at.phase first) past)
        (ne_eqb (suc memo.step) (step_of at) other)) tt
  ]

  pub where_stopped : (before : suc memo.step ≡ step_of at) →
      slice_get at.job.code memo.own.counter ≡ None →
      known ≡ learned at memo (goes_to memo.own.counter) → new ≡ old → First
  where_stopped before none is still =
      rw (stopped_rests at memo (not_past memo (step_of at) before)
      (eq-eqb (suc memo.step) (step_of at) before) none) (is, still)

  module _ (instr : Instr) (before : suc memo.step ≡ step_of at)
      (some : slice_get at.job.code memo.own.counter ≡ Some instr) where
    pub where_reads : (cell : ℕ) → cell_named at.job memo.own (Some instr) ≡ Some cell → First
    where_reads cell reads = rw (reads_ask at memo instr cell (not_past memo (step_of at) before)
        (eq-eqb (suc memo.step) (step_of at) before) some reads) tt

    pub where_decides : cell_named at.job memo.own (Some instr) ≡ None → (request : Request) →
        request ≡ asked_with at memo (Some instr) 0 →
        (settles_in at.job (step_of at) memo.settled memo.own ≡ false →
        claimed_cell at.job.rule at.job request ≡ None →
        (known ≡ learned at memo request) × (new ≡ old)) → First
    where_decides none request is each =
        by (claimed_cell at.job.rule at.job (asked_with at memo (Some instr) 0)) refl
      where
        by : (o : Option ℕ) → claimed_cell at.job.rule at.job (asked_with at memo (Some instr) 0)
            ≡ o →
            First
        by (Some cell) claims = rw (claim_asks at memo instr before some none cell claims) tt
        by None claims = elim (cases_Bool (settles_in at.job (step_of at) memo.settled memo.own)) [
          | inl settles ↦ rw (settles_ask at memo instr before some none settles) tt
          | inr lags ↦ rw (decided_rests at memo instr before some none lags claims)
              (subst (λ (r : Request). (known ≡ learned at memo r) × (new ≡ old)) is
              (each lags (subst (λ (r : Request). claimed_cell at.job.rule at.job r ≡ None) (sym is)
              claims)))
        ]

  -- the second pass
  pub where_over : kind_at at.phase ≡ Verify →
      (is_past at.phase memo ≡ true → (known ≡ memo) × (new ≡ old)) → Second
  where_over second each = elim (cases_Bool (is_past at.phase memo)) [
    | inl past ↦ rw (second_is at memo true (subst (λ (q : ℕ). is_past q memo ≡ true)
        (verify_is at.phase second) past)) (each past)
    | inr left ↦ rw (second_is at memo false (subst (λ (q : ℕ). is_past q memo ≡ false)
        (verify_is at.phase second) left)) tt
  ]

-- in each phase
module _ (at : PostData) (memo : Memo) where
  pub past_idle : kind_at at.phase ≡ Compute → is_past at.phase memo ≡ true →
      idle_in Compute at memo ≡ Some memo
  past_idle first past = past_rests at memo
      (subst (λ (q : ℕ). is_past q memo ≡ true) (compute_is at.phase first) past)

  pub unknown_idle : kind_at at.phase ≡ Compute → is_past at.phase memo ≡ false →
      (suc memo.step == step_of at) ≡ false → idle_in Compute at memo ≡ None
  unknown_idle first past other = unknown_asks at memo
      (subst (λ (q : ℕ). is_past q memo ≡ false) (compute_is at.phase first) past) other

  pub stopped_idle : suc memo.step ≡ step_of at → slice_get at.job.code memo.own.counter ≡ None →
      idle_in Compute at memo ≡ Some (learned at memo (goes_to memo.own.counter))
  stopped_idle before none = stopped_rests at memo (not_past memo (step_of at) before)
      (eq-eqb (suc memo.step) (step_of at) before) none

  pub second_idle : (b : Bool) → kind_at at.phase ≡ Verify → b ≡ is_past at.phase memo →
      idle_in Verify at memo ≡ if_so b memo
  second_idle b second is = second_is at memo b
      (subst (λ (q : ℕ). is_past q memo ≡ b) (verify_is at.phase second) (sym is))
