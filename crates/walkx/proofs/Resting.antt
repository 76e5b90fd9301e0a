-- Whether a task asks something.
use Rattle.std.proofs.Common.{◌≡◌, ℕ, suc, ◌-◌, ◌*◌, ◌≤◌, ◌==◌, Bool, true}
use Rattle.std.proofs.Common.{false, nat_lt, nat_le, slice_get, List, [], Option, Some, None}
use Rattle.std.proofs.Common.{refl, ap, ◌∙◌, inl, inr, arith}
use Rattle.std.specs.Prelude.{is_some, if◌then◌else◌, option_map, slice_index}
use Rattle.std.proofs.lemmas.Bool.{and_parts, and_right, cases_Bool, cond_both, eq-eqb, lt-leb}
use Rattle.std.proofs.lemmas.Bool.{lt-ltb}
use Rattle.pram_job.specs.declared.instr.Instr.{Instr}
use Rattle.pram_job.specs.declared.instr.Rule.{Rule}
use Rattle.pram_job.specs.declared.instr.Rule.TheVariants.{Common, Priority, Crew}
use Rattle.pram_machine.specs.declared.requests.Request.{Request}
use Rattle.pram_machine.specs.Instructions.{goes_to}
use Rattle.pram_machine.specs.Machine.{counter_place, register_place}
use Rattle.pram_words.specs.declared.phases.Kind.TheVariants.{Compute, Apply, Verify}
use Rattle.pram_words.specs.Phases.{phase_of}
use Rattle.walk_memory.specs.declared.memo.Memo.{Memo}
use Rattle.walk_memory.specs.Inner.Posts.{PostData, step_of, processor_of}
use Rattle.walk_memory.specs.Memory.{cell_named, cell_next, has_store, is_past, own_after, reach}
use Rattle.walk_memory.specs.Memory.{is_due, settles_in}
use Rattle.walk_memory.specs.OwnWrites.{cell_write}
use Rattle.walkx.specs.Passes.{carry_task, claims_store, crew_carry_task, lands_counter}
use Rattle.walkx.specs.Passes.{lands_register, own_claim_task, own_task, priority_carry_task}
use Rattle.walkx.specs.Passes.{put_if}
use Rattle.walkx.specs.Passes.{wide_task_of, writes_each, writes_own}
use Rattle.walkx.specs.Passing.{idle_in, if_so}
use Rattle.walkx.specs.Scripts.{Script, ends}
use Rattle.walkx.specs.Walk.{if_ended}
use Rattle.walkx.specs.WideParts.{asked_with, claimed_cell, learned}
use Rattle.walk_memory.proofs.GoingAlone.{no_more}
use Rattle.walk_memory.proofs.Puts.{cell_put_is}

pub some_of : {A : Type 0} (o : Option A) → is_some o ≡ true → (x : A) × (o ≡ Some x)
some_of None is = absurd (cc)
some_of (Some x) is = (x, refl)

pub none_of : {A : Type 0} (o : Option A) → is_some o ≡ false → o ≡ None
none_of None is = refl
none_of (Some x) is = absurd (cc)

abbrev asked_alone : Script Memo → Option Memo
asked_alone script = if_ended script None (λ m. Some m)

-- ---- known before the step, a processor is not past it

pub reach_most : (memo : Memo) → reach memo ≤ 3 * memo.step
reach_most memo = cond_both (is_some memo.store) (3 * memo.step - 2) (3 * memo.step)
    (λ n. n ≤ 3 * memo.step) (λ e. omega arith) (λ e. omega arith)

pub not_past : (memo : Memo) (t : ℕ) → suc memo.step ≡ t → is_past (phase_of t Compute) memo ≡ false
not_past memo t before =
    let most = reach_most memo in
    and_right (nat_lt memo.acted (phase_of t Compute)) (nat_le (phase_of t Compute) (reach memo))
    (lt-leb (phase_of t Compute) (reach memo) (omega (arith, most, before)))

-- ---- the first pass

module _ (at : PostData) (memo : Memo) where
  abbrev first_by : Rule → Option Memo
  first_by r = asked_alone (wide_task_of r Compute at.job at.layout (step_of at)
      (processor_of at) memo
      (λ m. ends m))

  abbrev Past : Bool → Type 0
  Past b = is_past (phase_of (step_of at) Compute) memo ≡ b

  past_by : Past true → (r : Rule) → first_by r ≡ Some memo
  unfolding wide_task_of own_task own_claim_task
  past_by past Common = rw past refl
  past_by past Priority = rw past refl
  past_by past Crew = rw past refl

  pub past_rests : Past true → idle_in Compute at memo ≡ Some memo
  past_rests past = past_by past at.job.rule

  unknown_by : Past false → (suc memo.step == step_of at) ≡ false → (r : Rule) → first_by r ≡ None
  unfolding wide_task_of own_task own_claim_task
  unknown_by past other Common = rw (past, other) refl
  unknown_by past other Priority = rw (past, other) refl
  unknown_by past other Crew = rw (past, other) refl

  pub unknown_asks : Past false → (suc memo.step == step_of at) ≡ false →
      idle_in Compute at memo ≡ None
  unknown_asks past other = unknown_by past other at.job.rule

  stopped_by : Past false → (suc memo.step == step_of at) ≡ true →
      (none : slice_get at.job.code memo.own.counter ≡ None) → (r : Rule) →
      first_by r ≡ Some (learned at memo (goes_to memo.own.counter))
  unfolding wide_task_of own_task own_claim_task
  stopped_by past before none Common =
      rw (
        past,
        before,
        none,
        no_more at.job memo.own none,
        and_right (is_due memo.settled (step_of at)) false refl,
      ) refl
  stopped_by past before none Priority =
      rw (
        past,
        before,
        none,
        no_more at.job memo.own none,
        and_right (is_due memo.settled (step_of at)) false refl,
      ) refl
  stopped_by past before none Crew =
      rw (
        past,
        before,
        none,
        no_more at.job memo.own none,
        and_right (is_due memo.settled (step_of at)) false refl,
      ) refl

  pub stopped_rests : Past false → (suc memo.step == step_of at) ≡ true →
      slice_get at.job.code memo.own.counter ≡ None →
      idle_in Compute at memo ≡ Some (learned at memo (goes_to memo.own.counter))
  stopped_rests past before none = stopped_by past before none at.job.rule

  reads_by : (instr : Instr) (cell : ℕ) → Past false → (suc memo.step == step_of at) ≡ true →
      slice_get at.job.code memo.own.counter ≡ Some instr →
      cell_named at.job memo.own (Some instr) ≡ Some cell → (r : Rule) → first_by r ≡ None
  unfolding wide_task_of own_task own_claim_task
  reads_by instr cell past before some reads Common = rw (past, before, some, reads) refl
  reads_by instr cell past before some reads Priority = rw (past, before, some, reads) refl
  reads_by instr cell past before some reads Crew = rw (past, before, some, reads) refl

  pub reads_ask : (instr : Instr) (cell : ℕ) → Past false → (suc memo.step == step_of at) ≡ true →
      slice_get at.job.code memo.own.counter ≡ Some instr →
      cell_named at.job memo.own (Some instr) ≡ Some cell → idle_in Compute at memo ≡ None
  reads_ask instr cell past before some reads =
      reads_by instr cell past before some reads at.job.rule

-- what is asked for is known: what is written of it
module _ (at : PostData) (memo : Memo) (request : Request) (none : cell_next at.job memo.own ≡ None)
  where
    abbrev known : Script Memo
    known = ends (learned at memo request)

    abbrev written : Script Memo
    written = writes_own at.job at.layout (step_of at) (processor_of at) memo request known

    abbrev claimed : Script Memo
    claimed = claims_store at.job at.layout (step_of at) (processor_of at) request written

    abbrev left : List (ℕ × ℕ) → Option Memo
    left writes = asked_alone (writes_each at.layout (step_of at) writes known)

    put_asks : (so : Bool) (place value : ℕ) (others : List (ℕ × ℕ)) → left others ≡ None →
        left (put_if so place value others) ≡ None
    put_asks true place value others asks = refl
    put_asks false place value others asks = asks

    abbrev one : ℕ → List (ℕ × ℕ) → List (ℕ × ℕ)
    one r others = put_if (lands_register at.job (processor_of at) memo request r)
        (register_place at.job (processor_of at) r)
        (slice_index (own_after at.job (processor_of at) memo.own request).registers r) others

    one_asks : (r : ℕ) (others : List (ℕ × ℕ)) → left others ≡ None → left (one r others) ≡ None
    one_asks r others asks = put_asks (lands_register at.job (processor_of at) memo request r)
        (register_place at.job (processor_of at) r)
        (slice_index (own_after at.job (processor_of at) memo.own request).registers r) others asks

    abbrev last : List (ℕ × ℕ)
    last = put_if (lands_counter at.job memo request) (counter_place at.job (processor_of at))
        request.next []

    last_asks : left last ≡ None
    last_asks = ap (λ (b : Bool). left (put_if b (counter_place at.job (processor_of at))
        request.next [])) lands
      where
        lands : lands_counter at.job memo request ≡ true
        lands = rw none refl

    settling_asks : settles_in at.job (step_of at) memo.settled memo.own ≡ true → asked_alone written ≡ None
    settling_asks is =
        ap (λ (b : Bool). left (if b then one 0 (one 1 (one 2 (one 3 last))) else [])) is
        ∙ one_asks 0 (one 1 (one 2 (one 3 last))) (one_asks 1 (one 2 (one 3 last))
        (one_asks 2 (one 3 last) (one_asks 3 last last_asks)))

    lagging_rests : settles_in at.job (step_of at) memo.settled memo.own ≡ false →
        asked_alone written ≡ Some (learned at memo request)
    lagging_rests is =
        ap (λ (b : Bool). left (if b then one 0 (one 1 (one 2 (one 3 last))) else [])) is

    claims_none : cell_write at.job request.put ≡ None → asked_alone claimed ≡ asked_alone written
    claims_none e = rw e refl

    claims_some : (w : ℕ × ℕ) → cell_write at.job request.put ≡ Some w → asked_alone claimed ≡ None
    claims_some w e =
        let cell = lt-ltb w.0 at.job.cells (cell_put_is at.job request.put w.0 w.1 e).1 in
        rw (e, cell) refl

module _ (at : PostData) (memo : Memo) (instr : Instr) (before : suc memo.step ≡ step_of at)
    (some : slice_get at.job.code memo.own.counter ≡ Some instr)
    (none : cell_named at.job memo.own (Some instr) ≡ None) where
  abbrev request : Request
  request = asked_with at memo (Some instr) 0

  past : is_past (phase_of (step_of at) Compute) memo ≡ false
  past = not_past memo (step_of at) before

  same : (suc memo.step == step_of at) ≡ true
  same = eq-eqb (suc memo.step) (step_of at) before

  next_none : cell_next at.job memo.own ≡ None
  next_none = rw some none

  common_is : first_by at memo Common ≡ asked_alone (written at memo request next_none)
  unfolding wide_task_of own_task
  common_is = rw (past, same, some, none) refl

  priority_is : first_by at memo Priority ≡ asked_alone (claimed at memo request next_none)
  unfolding wide_task_of own_claim_task
  priority_is = rw (past, same, some, none) refl

  crew_is : first_by at memo Crew ≡ asked_alone (claimed at memo request next_none)
  unfolding wide_task_of own_claim_task
  crew_is = rw (past, same, some, none) refl

  settled_by : settles_in at.job (step_of at) memo.settled memo.own ≡ true → (o : Option (ℕ × ℕ)) →
      cell_write at.job request.put ≡ o → asked_alone (claimed at memo request next_none) ≡ None
  settled_by is None e =
      claims_none at memo request next_none e ∙ settling_asks at memo request next_none is
  settled_by is (Some w) e = claims_some at memo request next_none w e

  settles_ask_by : settles_in at.job (step_of at) memo.settled memo.own ≡ true → (r : Rule) →
      first_by at memo r ≡ None
  settles_ask_by is Common = common_is ∙ settling_asks at memo request next_none is
  settles_ask_by is Priority = priority_is ∙ settled_by is (cell_write at.job request.put) refl
  settles_ask_by is Crew = crew_is ∙ settled_by is (cell_write at.job request.put) refl

  pub settles_ask : settles_in at.job (step_of at) memo.settled memo.own ≡ true → idle_in Compute at memo ≡ None
  settles_ask is = settles_ask_by is at.job.rule

  claim_by : (cell : ℕ) (o : Option (ℕ × ℕ)) → cell_write at.job request.put ≡ o →
      option_map (λ (w : ℕ × ℕ). w.0) o ≡ Some cell →
      asked_alone (claimed at memo request next_none) ≡ None
  claim_by cell None e is = absurd (cc)
  claim_by cell (Some w) e is = claims_some at memo request next_none w e

  claim_asks_by : (cell : ℕ) (r : Rule) → claimed_cell r at.job request ≡ Some cell →
      first_by at memo r ≡ None
  claim_asks_by cell Common is = absurd (cc)
  claim_asks_by cell Priority is = priority_is ∙ claim_by cell
      (cell_write at.job request.put) refl is
  claim_asks_by cell Crew is = crew_is ∙ claim_by cell (cell_write at.job request.put) refl is

  pub claim_asks : (cell : ℕ) → claimed_cell at.job.rule at.job request ≡ Some cell →
      idle_in Compute at memo ≡ None
  claim_asks cell is = claim_asks_by cell at.job.rule is

  lags_by : settles_in at.job (step_of at) memo.settled memo.own ≡ false → (o : Option (ℕ × ℕ)) →
      cell_write at.job request.put ≡ o → option_map (λ (w : ℕ × ℕ). w.0) o ≡ None →
      asked_alone (claimed at memo request next_none) ≡ Some (learned at memo request)
  lags_by lags None e is =
      claims_none at memo request next_none e ∙ lagging_rests at memo request next_none lags
  lags_by lags (Some w) e is = absurd (cc)

  rests_by : settles_in at.job (step_of at) memo.settled memo.own ≡ false → (r : Rule) →
      claimed_cell r at.job request ≡ None → first_by at memo r ≡ Some (learned at memo request)
  rests_by lags Common is = common_is ∙ lagging_rests at memo request next_none lags
  rests_by lags Priority is = priority_is ∙ lags_by lags (cell_write at.job request.put) refl is
  rests_by lags Crew is = crew_is ∙ lags_by lags (cell_write at.job request.put) refl is

  pub decided_rests : settles_in at.job (step_of at) memo.settled memo.own ≡ false →
      claimed_cell at.job.rule at.job request ≡ None →
      idle_in Compute at memo ≡ Some (learned at memo request)
  decided_rests lags is = rests_by lags at.job.rule is

-- ---- the other phases

module _ (at : PostData) (memo : Memo) where
  apply_by : (r : Rule) → asked_alone (wide_task_of r Apply at.job at.layout (step_of at)
      (processor_of at) memo (λ m. ends m)) ≡ Some memo
  unfolding wide_task_of
  apply_by Common = refl
  apply_by Priority = refl
  apply_by Crew = refl

  pub apply_rests : idle_in Apply at memo ≡ Some memo
  apply_rests = apply_by at.job.rule

  abbrev second_by : Rule → Option Memo
  second_by r = asked_alone
      (wide_task_of r Verify at.job at.layout (step_of at) (processor_of at) memo
      (λ m. ends m))

  abbrev Later : Bool → Type 0
  Later b = is_past (phase_of (step_of at) Verify) memo ≡ b

  over_by : Later true → (r : Rule) → second_by r ≡ Some memo
  unfolding wide_task_of carry_task crew_carry_task priority_carry_task
  over_by past Common = rw past refl
  over_by past Priority = rw past refl
  over_by past Crew = rw past refl

  unkept_by : Later false → has_store (step_of at) memo ≡ false → (r : Rule) → second_by r ≡ None
  unfolding wide_task_of carry_task crew_carry_task priority_carry_task
  unkept_by past is Common = rw (past, is) refl
  unkept_by past is Priority = rw (past, is) refl
  unkept_by past is Crew = rw (past, is) refl

  kept_by : Later false → has_store (step_of at) memo ≡ true → (w : ℕ × ℕ) →
      memo.store ≡ Some w → (r : Rule) → second_by r ≡ None
  unfolding wide_task_of carry_task crew_carry_task priority_carry_task
  kept_by past is w e Common = rw (past, is, e) refl
  kept_by past is w e Priority = rw (past, is, e) refl
  kept_by past is w e Crew = rw (past, is, e) refl

  pub second_is : (b : Bool) → Later b → idle_in Verify at memo ≡ if_so b memo
  second_is true past = over_by past at.job.rule
  second_is false past = elim (cases_Bool (has_store (step_of at) memo)) [
    | inl is ↦ (let w = some_of memo.store (kept is) in kept_by past is w.0 w.1 at.job.rule)
    | inr is ↦ unkept_by past is at.job.rule
  ]
    where
      kept : has_store (step_of at) memo ≡ true → is_some memo.store ≡ true
      kept is = (and_parts (memo.step == step_of at) (is_some memo.store) is).1
