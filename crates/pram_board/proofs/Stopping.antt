-- After which step processors had stopped.
use Rattle.std.proofs.Common.{◌≡◌, ◌≢◌, ℕ, zero, suc, ◌+◌, ◌-◌, ◌<◌, ◌≤◌, ◌⊎◌, true, false, max}
use Rattle.std.proofs.Common.{List, [], ◌∷◌, length, slice_get, Option, Some, None, IfSome, IfNone}
use Rattle.std.proofs.Common.{refl, sym, ap, subst, ◌∙◌, inl, inr, lit<, arith}
use Rattle.std.proofs.lemmas.Bool.{cases_lt}
use Rattle.std.proofs.lemmas.Option.{slice_get_within}
use Rattle.pram_job.specs.declared.instr.Instr.{Instr}
use Rattle.pram_job.specs.Job.{JobData, IsInstr, IsJob}
use Rattle.pram_machine.proofs.Shapes.{decided_next, decided_place}
use Rattle.pram_machine.specs.declared.requests.Request.{Request}
use Rattle.pram_machine.specs.declared.turn.Put.TheVariants.{Register}
use Rattle.pram_machine.specs.declared.turn.Turn.{Turn}
use Rattle.pram_machine.specs.Instructions.{decided}
use Rattle.pram_machine.specs.Machine.{counter, counter_place, halted, out_of_range, register_place}
use Rattle.pram_machine.specs.Turns.{IsTurnOf}
use Rattle.pram_step.proofs.LawCounters.{stopped_processor}
use Rattle.pram_step.specs.Runs.{IsReached, state_after}
use Rattle.pram_words.specs.declared.layout.Form.{Form}
use Rattle.pram_words.specs.declared.layout.Form.TheVariants.{Compact, Wide}
use Rattle.pram_words.specs.declared.words.Word.TheVariants.{Stored}
use Rattle.pram_words.specs.Stamps.{newer_word, stamp_of}
use Rattle.pram_words.specs.Words.{LayoutData, IsStamped, IsWord, most_stored, number_of, places_of}
use Rattle.walk_memory.specs.Blocks.{IsWide}
use Rattle.walk_memory.specs.declared.memo.Own.{Own}
use Rattle.walk_memory.specs.Learned.{newest_of, learned_own}
use Rattle.walk_memory.specs.Memory.{asked, is_load, loads_next, own_after, own_at, settled_at}
use Rattle.walk_memory.specs.Memory.{settles}
use Rattle.walk_memory.proofs.Shaped.{register_of}
use Rattle.walkx.specs.declared.operation.Op.TheVariants.{Load}
use Rattle.walkx.specs.Records.{Record, after}
use Rattle.lawful_walk.specs.Board.{held, stamp_at, Stands}
use Rattle.lawful_walk.specs.Lands.{settled}
use Rattle.lawful_walk.specs.Moments.{Backed, Sound}
use Rattle.lawful_walk.specs.Seen.{KnowsStep}
use Rattle.lawful_walk.proofs.Facts.{facts}
use Rattle.lawful_walk.proofs.Growths.{newer_two}
use Rattle.lawful_walk.proofs.Knowing.{known_now}
use Rattle.lawful_walk.proofs.OwnNext.{own_next_alone}
use Rattle.lawful_walk.proofs.Settles.{loads_none_since, runs_before, settled_is, stopped_near}
use Rattle.lawful_walk.proofs.TrueMemos.{stopped_rests}
use Rattle.lawful_walk.proofs.Told.{newest_settled, told_settled}
use Rattle.pram_board.specs.Inner.Ends.{EndsThere}
use Rattle.pram_board.specs.Stops.{StopsThere}

-- ---- what loads of a place's two words give once the last step is shown

-- no word of a place has a stamp above the last step
stamps_most : (job : JobData) (y : LayoutData) (words : List ℕ) (p k : ℕ) → Stands job y words →
    IsWord y (Stored p k) → stamp_at y words p k ≤ job.steps
stamps_most job y words p k stands is =
    let range : IsStamped job.steps (most_stored y job p) (held y words (Stored p k)) =
    stands.admitted.in_range (Stored p k) is in range.0

-- the newer one is the last that was written
final_word : (job : JobData) (y : LayoutData) (r : Record) (p a b : ℕ) (words : List ℕ) →
    Stands job y words → KnowsStep y r job.steps → p < places_of y →
    Backed job y
    (after (after r (Load (number_of y (Stored p 0))) a) (Load (number_of y (Stored p 1))) b)
    words → newer_word a b ≡ settled y.form job job.steps p
final_word job y r p a b words stands knows place m =
    let first = m.earlier in
    let k = known_now job y r job.steps first.words first.stands first.earlier knows in
    let low = (facts job y first.words first.stands).root_low in
    let most_a = stamps_most job y first.words p 0 first.stands (place, lit< tt) in
    let most_b = stamps_most job y m.words p 1 m.stands (place, lit< tt) in
    let ea : stamp_of a ≡ stamp_at y first.words p 0 = ap stamp_of first.heard in
    let eb : stamp_of b ≡ stamp_at y m.words p 1 = ap stamp_of m.heard in
    newer_two job y job.steps p a b first.words m.words words first.stands m.stands stands
    first.since m.since place k.0 (let f = k.1 in omega arith) first.heard m.heard
    (omega arith) (omega arith)

pub sound_word : (job : JobData) (y : LayoutData) (r : Record) (p word a b : ℕ) →
    KnowsStep y r job.steps → p < places_of y → word ≡ number_of y (Stored p 0) →
    word + 1 ≡ number_of y (Stored p 1) →
    Sound job y (after (after r (Load word) a) (Load (word + 1)) b) →
    newer_word a b ≡ settled y.form job job.steps p
sound_word job y r p word a b knows place e f sound =
    let was : Sound job y (after (after r (Load (number_of y (Stored p 0))) a)
    (Load (number_of y (Stored p 1))) b) =
    subst (λ (x : ℕ × ℕ). Sound job y (after (after r (Load x.0) a) (Load x.1) b))
    (λ i. (e i, f i)) sound in
    final_word job y r p a b was.words was.stands knows place was.backed

-- ---- a processor's own places tell what it was when it last settled

pub record Tells (job : JobData) (i : ℕ) (words : List ℕ) : Type 0 where
  pub since : newest_of words ≡ settled_at job job.steps i
  pub own : learned_own words ≡ own_at job (settled_at job job.steps i) i

pub tells : (form : Form) (job : JobData) (i c r0 r1 r2 r3 : ℕ) → IsWide form → IsJob job →
    i < job.procs → c ≡ settled form job job.steps (counter_place job i) →
    r0 ≡ settled form job job.steps (register_place job i 0) →
    r1 ≡ settled form job job.steps (register_place job i 1) →
    r2 ≡ settled form job job.steps (register_place job i 2) →
    r3 ≡ settled form job job.steps (register_place job i 3) →
    Tells job i (c ∷ r0 ∷ r1 ∷ r2 ∷ r3 ∷ [])
tells Compact job i c r0 r1 r2 r3 wide limits proc ec e0 e1 e2 e3 = absurd wide
tells (Wide g) job i c r0 r1 r2 r3 wide limits proc ec e0 e1 e2 e3 =
    rw (ec, e0, e1, e2, e3) (record {
      since = newest_settled g job limits job.steps i proc;
      own = told_settled g job limits job.steps i proc;
    })

-- ---- one processor goes on alone

-- its turn's data go to one of its registers
pub turn_place : (job : JobData) (i at a b v : ℕ) (instr : Instr) (turn : Turn) →
    IsInstr job.cells (length job.code) instr → at < length job.code →
    IsTurnOf job (decided job i at instr a b v) turn → (place value : ℕ) →
    turn.put ≡ Register place value →
    (register_place job i 0 ≤ place) × (place < register_place job i 4)
turn_place job i at a b v instr turn fits low is place value put =
    register_of job i turn place value (record {
      place = λ p w e. decided_place job i at a b v instr fits p w
          (sym (ap (λ (r : Request). r.put) is.value) ∙ e);
      next = subst (λ (r : Request). r.next ≤ out_of_range job) (sym is.value)
          (decided_next job i at a b v instr fits low);
      sorted = is.sorted;
    }) put

-- it ran up to here
abbrev pub RunsTo : JobData → ℕ → ℕ → Type 0
RunsTo job i t = (u : ℕ) → u < t → counter job (state_after job u) i < halted job

-- what is answered of it after this step
pub ends_if : (job : JobData) (i step at : ℕ) (stop : Option ℕ) → step ≤ job.steps →
    RunsTo job i step → at ≡ counter job (state_after job step) i →
    IfSome stop (λ s. (s ≡ step) × (at ≡ halted job)) → IfSome stop (EndsThere job i)
ends_if job i step at None within runs is some = tt
ends_if job i step at (Some s) within runs is some =
    subst (EndsThere job i) (sym some.0)
    (record { within = within; ends = sym is ∙ some.1; runs = runs })

pub ends_not : (job : JobData) (i at : ℕ) (stop : Option ℕ) →
    (counter job (state_after job job.steps) i ≡ halted job → at ≡ halted job) →
    IfNone stop (at ≢ halted job) →
    IfNone stop (counter job (state_after job job.steps) i ≢ halted job)
ends_not job i at None ends none = λ e. none (ends e)
ends_not job i at (Some s) ends none = tt

module _ (job : JobData) (i : ℕ) (limits : IsJob job) (proc : i < job.procs) where
  -- it settles only where it runs
  settles_runs : (t : ℕ) → settles job t i ≡ true → counter job (state_after job t) i < halted job
  settles_runs t does =
      elim (cases_lt (counter job (state_after job t) i) (halted job)) [
        | inl low ↦ low
        | inr past ↦ absurd (let rests = stopped_rests job i limits proc t past t (omega arith) in
            let f : true ≡ false = sym does ∙ rests in cc)
      ]

  pub ran_to : (t : ℕ) → RunsTo job i (settled_at job t i)
  ran_to t = by (settled_at job t i) refl
    where
      by : (s : ℕ) → settled_at job t i ≡ s → RunsTo job i s
      by zero e u less = absurd (omega (arith, less))
      by (suc s) e u less = runs_before job i u s limits proc (omega (arith, less))
          (settles_runs s (settled_is job i t s e).0)

  -- its next step, by an instruction
  pub runs_more : (t : ℕ) (own : Own) (instr : Instr) → own ≡ own_at job t i →
      slice_get job.code own.counter ≡ Some instr → RunsTo job i t → RunsTo job i (t + 1)
  runs_more t own instr is there so_far u less = elim (cases_lt u t) [
    | inl low ↦ so_far u low
    | inr high ↦ (let same : t ≡ u = omega (arith, high, less) in
        let low = slice_get_within job.code own.counter instr there in
        let at : own.counter ≡ counter job (state_after job t) i =
        ap (λ (o : Own). o.counter) is in
        subst (λ (n : ℕ). counter job (state_after job n) i < halted job) same
        (omega (arith, low, at)))
  ]

  pub own_more : (t : ℕ) (own now : Own) (instr : Instr) → own ≡ own_at job t i →
      slice_get job.code own.counter ≡ Some instr → is_load (Some instr) ≡ false →
      now ≡ own_after job i own (asked job i own 0) → now ≡ own_at job (t + 1) i
  own_more t own now instr is there other then =
      let none : loads_next job (own_at job t i) ≡ false =
      subst (λ (o : Own). loads_next job o ≡ false) is (ap is_load there ∙ other) in
      then ∙ ap (λ (o : Own). own_after job i o (asked job i o 0)) is
      ∙ own_next_alone job i t limits proc none
      ∙ ap (λ (n : ℕ). own_at job n i) (omega arith)

  -- it stands at no load once it has settled for the last time
  pub no_load : (s t : ℕ) (own : Own) (instr : Instr) → own ≡ own_at job t i →
      slice_get job.code own.counter ≡ Some instr → is_load (Some instr) ≡ true →
      settled_at job s i ≤ t → t < s → ⊥
  no_load s t own instr is there loads from less =
      let rests = loads_none_since job i s t from less in
      let does : loads_next job (own_at job t i) ≡ true =
      subst (λ (o : Own). loads_next job o ≡ true) is (ap is_load there ∙ loads) in
      let f : true ≡ false = sym does ∙ rests in cc

  -- one that has stopped stands still
  pub stays : (s t : ℕ) → s ≤ t → halted job ≤ counter job (state_after job s) i →
      counter job (state_after job t) i ≡ counter job (state_after job s) i
  stays s t less past =
      let k = (stopped_processor job s (t - s) i limits proc past).0 in
      let there : s + (t - s) ≡ t = omega (arith, less) in
      subst (λ (n : ℕ). counter job (state_after job n) i
      ≡ counter job (state_after job s) i) there k

  -- so it stands in the end, if it has stopped after this step
  pub ends_so : (s at : ℕ) → s ≤ job.steps → at ≡ counter job (state_after job s) i →
      halted job ≤ at → counter job (state_after job job.steps) i ≡ halted job → at ≡ halted job
  ends_so s at within is past ends =
      is ∙ sym (stays s job.steps within (omega (arith, is, past))) ∙ ends

  -- one that is at its end after the last step was there 64 steps after it settled
  pub ended_by : (s last : ℕ) → last ≤ s → ((last ≡ s) ⊎ (settled_at job s i + 64 ≤ last)) →
      counter job (state_after job s) i ≡ halted job →
      counter job (state_after job last) i ≡ halted job
  ended_by s last less (inl same) ends =
      subst (λ (n : ℕ). counter job (state_after job n) i ≡ halted job) (sym same) ends
  ended_by s last less (inr far) ends =
      let past = stopped_near job i s last limits proc (omega (arith, ends)) far in
      sym (stays last s less past) ∙ ends

-- ---- all processors

-- those below n have stopped after this step, and not before
pub record EndBelow (job : JobData) (n last : ℕ) : Type 0 where
  pub within : last ≤ job.steps
  pub ends : (i : ℕ) → i < n → counter job (state_after job last) i ≡ halted job
  pub runs : (u : ℕ) → u < last →
      (i : ℕ) × (i < n) × (counter job (state_after job u) i < halted job)

pub end_none : (job : JobData) → EndBelow job 0 0
end_none job = record {
  within = omega arith;
  ends = λ i less. absurd (omega (arith, less));
  runs = λ u less. absurd (omega (arith, less));
}

pub end_more : (job : JobData) (n last step : ℕ) → IsJob job → n < job.procs → EndBelow job n last →
    EndsThere job n step → EndBelow job (n + 1) (max last step)
end_more job n last step limits proc below there = record {
  within = (let a = below.within in let b = there.within in omega (arith, a, b));
  ends = λ i less. elim (cases_lt i n) [
    | inl low ↦ (let e = below.ends i low in
        stays job i limits (omega (arith, low, proc)) last (max last step) (omega arith)
        (omega (arith, e)) ∙ e)
    | inr high ↦ (let same : n ≡ i = omega (arith, high, less) in
        let e = there.ends in
        subst (λ (j : ℕ). counter job (state_after job (max last step)) j ≡ halted job) same
        (stays job n limits proc step (max last step) (omega arith) (omega (arith, e)) ∙ e))
  ];
  runs = λ u less. elim (cases_lt u last) [
    | inl low ↦ (let r = below.runs u low in (r.0, let k = r.1 in omega (arith, k), r.2))
    | inr high ↦ (n, omega arith, there.runs u (omega (arith, high, less)))
  ];
}

pub stops_there : (job : JobData) (last : ℕ) → IsReached job job.steps →
    EndBelow job job.procs last → StopsThere job last
stops_there job last reached below = record {
  within = below.within;
  reached = λ t less. reached t (let w = below.within in omega (arith, less, w));
  stop = record {
    stopped = λ i proc. let e = below.ends i proc in omega (arith, e);
    runs = λ u less all. let r = below.runs u less in
        let low = r.2 in
        let past = all r.0 r.1 in
        omega (arith, low, past);
  };
  ends = below.ends;
}
