-- What a worker remembers of a processor stays so in the machine's run while it goes on, whatever
-- the board's words.
use Rattle.std.proofs.Common.{◌≡◌, ◌⊎◌, ℕ, zero, suc, ◌+◌, ◌-◌, ◌*◌, ◌<◌, ◌≤◌, ◌&&◌, ◌||◌, nat_le}
use Rattle.std.proofs.Common.{Bool, true, false, slice_get, Option, Some, None, length}
use Rattle.std.proofs.Common.{refl, sym, ap, subst, ◌∙◌, inl, inr, arith}
use Rattle.std.specs.Prelude.{is_none, is_some, if◌then◌else◌}
use Rattle.std.proofs.lemmas.Bool.{cases_Bool, cases_lt, cond_both, eqb-true, leb-true, leb-false}
use Rattle.std.proofs.lemmas.Bool.{and_parts, or_parts, le-leb, not-true}
use Rattle.std.proofs.lemmas.Option.{none-some, slice_get_past}
use Rattle.pram_job.specs.declared.instr.Instr.{Instr}
use Rattle.pram_job.specs.declared.instr.Rule.{Rule}
use Rattle.pram_job.specs.declared.instr.Rule.TheVariants.{Common, Priority, Crew}
use Rattle.pram_job.specs.Job.{JobData, IsJob}
use Rattle.pram_machine.specs.declared.requests.Request.{Request}
use Rattle.pram_machine.specs.Instructions.{request_in}
use Rattle.pram_machine.specs.Machine.{IsStopped, counter}
use Rattle.pram_step.specs.Runs.{state_after}
use Rattle.pram_step.proofs.LawCounters.{stopped_processor}
use Rattle.pram_words.specs.declared.phases.Kind.{Kind}
use Rattle.pram_words.specs.declared.phases.Kind.TheVariants.{Compute, Apply, Verify}
use Rattle.pram_words.specs.Phases.{phase_of}
use Rattle.walk_memory.specs.declared.memo.Memo.{Memo}
use Rattle.walk_memory.specs.declared.memo.Own.{Own}
use Rattle.walk_memory.specs.Memory.{IsIdle, IsTrueMemo, asked, asked_by, goes_alone, goes_on_alone}
use Rattle.walk_memory.specs.Memory.{gone_on, has_stopped, has_store, is_common, is_due}
use Rattle.walk_memory.specs.Memory.{is_load}
use Rattle.walk_memory.specs.Memory.{loads_next, one_alone, own_after, own_alone, own_at, reach}
use Rattle.walk_memory.specs.Memory.{settled_at, settles, settles_in, steps_left, store_in}
use Rattle.walk_memory.specs.OwnWrites.{cell_write}
use Rattle.walk_memory.specs.Learned.{carried, memo_after}
use Rattle.lawful_walk.proofs.Alone.{alone_is}
use Rattle.lawful_walk.proofs.OwnNext.{own_next, own_next_alone}
use Rattle.lawful_walk.proofs.Settles.{settled_between, settled_new, settled_same}

-- ---- how far a memo reaches

pub no_store : (o : Option (ℕ × ℕ)) → is_some o ≡ false → o ≡ None
no_store None e = refl
no_store (Some write) e = absurd (cc)

none_store : (o : Option (ℕ × ℕ)) → is_none o ≡ true → o ≡ None
none_store None e = refl
none_store (Some write) e = absurd (cc)

pub reach_none : (memo : Memo) → memo.store ≡ None → reach memo ≡ 3 * memo.step
reach_none memo none =
    ap (λ (o : Option (ℕ × ℕ)). if is_some o then 3 * memo.step - 2 else 3 * memo.step) none

-- with a store it does not reach the last phase of its step
pub reach_last : (memo : Memo) →
    (memo.store ≡ None) ⊎ (reach memo ≡ 3 * memo.step - 2)
reach_last memo = by memo.store refl
  where
    by : (o : Option (ℕ × ℕ)) → memo.store ≡ o →
        (memo.store ≡ None) ⊎ (reach memo ≡ 3 * memo.step - 2)
    by None e = inl e
    by (Some write) e = inr (
        ap (λ (o : Option (ℕ × ℕ)). if is_some o then 3 * memo.step - 2 else 3 * memo.step) e)

pub reach_most : (memo : Memo) → reach memo ≤ 3 * memo.step
reach_most memo = elim (reach_last memo) [
  | inl none ↦ (let e = reach_none memo none in omega (arith, e))
  | inr e ↦ omega (arith, e)
]

-- a phase is within its step
pub phase_within : (t : ℕ) (kind : Kind) →
    (3 * t < phase_of (suc t) kind) × (phase_of (suc t) kind ≤ 3 * suc t)
phase_within t Compute = (omega arith, omega arith)
phase_within t Apply = (omega arith, omega arith)
phase_within t Verify = (omega arith, omega arith)

-- ---- when it is idle

module _ (job : JobData) (i t : ℕ) where
  pub idle_of : (rule : Rule) (kind : Kind) → settles job t i ≡ false →
      (is_common rule ≡ true) ⊎ (store_in job i (suc t) ≡ None) →
      (kind ≡ Verify → store_in job i (suc t) ≡ None) → IsIdle rule kind job t i
  idle_of Common Compute rests stores last = rests
  idle_of Priority Compute rests (inl e) last = absurd (cc)
  idle_of Priority Compute rests (inr none) last = (rests, none)
  idle_of Crew Compute rests (inl e) last = absurd (cc)
  idle_of Crew Compute rests (inr none) last = (rests, none)
  idle_of rule Apply rests stores last = by rule
    where
      by : (rule : Rule) → IsIdle rule Apply job t i
      by Common = tt
      by Priority = tt
      by Crew = tt
  idle_of rule Verify rests stores last = by rule
    where
      by : (rule : Rule) → IsIdle rule Verify job t i
      by Common = last refl
      by Priority = last refl
      by Crew = last refl

  -- in the last two passes
  pub idle_later : (rule : Rule) (kind : Kind) → 3 * t + 1 < phase_of (suc t) kind →
      (kind ≡ Verify → store_in job i (suc t) ≡ None) → IsIdle rule kind job t i
  idle_later rule Compute over last = absurd (omega (arith, over))
  idle_later Common Apply over last = tt
  idle_later Priority Apply over last = tt
  idle_later Crew Apply over last = tt
  idle_later Common Verify over last = last refl
  idle_later Priority Verify over last = last refl
  idle_later Crew Verify over last = last refl

module _ (job : JobData) (i : ℕ) (limits : IsJob job) (proc : i < job.procs) where
  abbrev True : Memo → Type 0
  True memo = IsTrueMemo job i memo

  -- whether it settles in its next step
  settles_by : (memo : Memo) → True memo →
      settles job memo.step i ≡ settles_in job (suc memo.step) memo.settled memo.own
  settles_by memo is_true =
      ap (λ (s : ℕ). settles_in job (suc memo.step) s (own_at job memo.step i)) (sym is_true.settled)
      ∙ ap (settles_in job (suc memo.step) memo.settled) (sym is_true.own)

  -- ---- alone

  -- so many steps in which it loads nothing
  pub own_alone_is : (more x : ℕ) →
      ((s : ℕ) → x ≤ s → s < x + more → loads_next job (own_at job s i) ≡ false) →
      own_alone job i more (own_at job x i) ≡ own_at job (x + more) i
  own_alone_is zero x none = ap (λ (t : ℕ). own_at job t i) (omega arith)
  own_alone_is (suc more) x none =
      ap (own_alone job i more)
      (own_next_alone job i x limits proc (none x (omega arith) (omega arith)))
      ∙ own_alone_is more (suc x) (λ s low high. none s (omega (arith, low)) (omega (arith, high)))
      ∙ ap (λ (t : ℕ). own_at job t i) (omega arith)

  -- the phases of one step more
  next_phases : (x r : ℕ) (memo : Memo) → True memo → memo.step ≡ x → memo.store ≡ None →
      r ≤ 3 * suc x →
      ((kind : Kind) → 3 * x < phase_of (suc x) kind → phase_of (suc x) kind ≤ r →
      IsIdle job.rule kind job x i) →
      (t : ℕ) (kind : Kind) → memo.acted < phase_of (suc t) kind → phase_of (suc t) kind ≤ r →
      IsIdle job.rule kind job t i
  next_phases x r memo is_true at none most new t kind after upto =
      let within = phase_within t kind in
      let low = within.0 in
      let high = within.1 in
      let reaches = reach_none memo none in
      elim (cases_lt t x) [
        | inl less ↦ is_true.idle t kind after (omega (arith, reaches, at, less, high))
        | inr more ↦ (let same : x ≡ t = omega (arith, more, low, upto, most) in
            subst (λ (s : ℕ). IsIdle job.rule kind job s i) same
            (new kind (rw same low) (rw same upto)))
      ]

  -- one step
  module _ (memo : Memo) (is_true : True memo) (none : memo.store ≡ None)
      (early : memo.step < job.steps) (alone : goes_alone job i memo ≡ true) where
    abbrev X : ℕ
    X = memo.step

    rests : settles job X i ≡ false
    rests = settles_by memo is_true
        ∙ not-true (settles_in job (suc X) memo.settled memo.own) (and_parts _ _ alone).0

    loads_none : loads_next job (own_at job X i) ≡ false
    loads_none = (or_parts _ _ rests).0

    asks_same : asked job i memo.own 0 ≡ request_in job (state_after job X) i
    asks_same = ap (λ (own : Own). asked job i own 0) is_true.own
        ∙ alone_is job i X limits loads_none

    store_same : cell_write job (asked job i memo.own 0).put ≡ store_in job i (suc X)
    store_same = ap (λ (r : Request). cell_write job r.put) asks_same

    may_store : (is_common job.rule ≡ true) ⊎ (store_in job i (suc X) ≡ None)
    may_store = elim (cases_Bool (is_common job.rule)) [
      | inl e ↦ inl e
      | inr e ↦ inr (sym store_same ∙ none_store (cell_write job (asked job i memo.own 0).put)
          (by (is_common job.rule) e (and_parts _ _ alone).1))
    ]
      where
        by : (b : Bool) → b ≡ false →
            (b || is_none (cell_write job (asked job i memo.own 0).put)) ≡ true →
            is_none (cell_write job (asked job i memo.own 0).put) ≡ true
        by true e f = absurd (cc)
        by false e f = f

    one_last : (kind : Kind) → phase_of (suc X) kind ≤ reach (one_alone job i memo) →
        kind ≡ Verify → store_in job i (suc X) ≡ None
    one_last kind upto last = elim (reach_last (one_alone job i memo)) [
      | inl e ↦ sym store_same ∙ e
      | inr e ↦ absurd (let high : 3 * suc X ≤ reach (one_alone job i memo) =
          subst (λ (k : Kind). phase_of (suc X) k ≤ reach (one_alone job i memo)) last upto in
          omega (arith, high, e))
    ]

    one_true : True (one_alone job i memo)
    one_true = record {
      step = omega (arith, early);
      own = ap (λ (own : Own). own_after job i own (asked job i own 0)) is_true.own
          ∙ own_next_alone job i X limits proc loads_none;
      settled = is_true.settled ∙ sym (settled_same job i X rests);
      told = is_true.told ∙ ap (λ (t : ℕ). own_at job t i) (sym (settled_same job i X rests));
      store = λ write e. sym store_same ∙ e;
      idle = next_phases X (reach (one_alone job i memo)) memo is_true refl none
          (reach_most (one_alone job i memo))
          (λ kind low upto. idle_of job i X job.rule kind rests may_store (one_last kind upto));
    }

  -- ---- one that has stopped

  module _ (x : ℕ) (over : IsStopped job (state_after job x) i) where
    gone : (t : ℕ) → x ≤ t → IsStopped job (state_after job t) i
    gone t more =
        let k = (stopped_processor job x (t - x) i limits proc over).0 in
        let there : x + (t - x) ≡ t = omega (arith, more) in
        let same = subst (λ (n : ℕ). counter job (state_after job n) i
        ≡ counter job (state_after job x) i) there k in
        omega (arith, same, over)

    none_there : (t : ℕ) → x ≤ t → slice_get job.code (counter job (state_after job t) i) ≡ None
    none_there t more =
        slice_get_past job.code (counter job (state_after job t) i) (gone t more)

    stopped_loads : (t : ℕ) → x ≤ t → loads_next job (own_at job t i) ≡ false
    stopped_loads t more = ap is_load (none_there t more)

    pub stopped_rests : (t : ℕ) → x ≤ t → settles job t i ≡ false
    stopped_rests t more =
        let past = le-leb (length job.code) (counter job (state_after job t) i) (gone t more) in
        rw (none_there t more, past) (by (is_due (settled_at job t i) (suc t)))
      where
        by : (b : Bool) → (b && false) ≡ false
        by true = refl
        by false = refl

    pub stopped_store : (t : ℕ) → x ≤ t → store_in job i (suc t) ≡ None
    stopped_store t more =
        let k = (stopped_processor job t 0 i limits proc (gone t more)).1 in
        let there : t + 0 ≡ t = omega arith in
        ap (cell_write job)
        (subst (λ (n : ℕ). (request_in job (state_after job n) i).put ≡ None) there k)

    still : (t : ℕ) → x ≤ t → own_at job (suc t) i ≡ own_at job t i
    still t more = sym (own_next_alone job i t limits proc (stopped_loads t more))
        ∙ ap (λ (o : Option Instr). own_after job i (own_at job t i)
        (asked_by job i (own_at job t i) o 0)) (none_there t more)

    pub stopped_own : (more : ℕ) → own_at job (x + more) i ≡ own_at job x i
    stopped_own zero = ap (λ (t : ℕ). own_at job t i) (omega arith)
    stopped_own (suc more) = ap (λ (t : ℕ). own_at job t i) (omega arith)
        ∙ still (x + more) (omega arith) ∙ stopped_own more

  -- it goes on to a later step at once
  module _ (memo : Memo) (is_true : True memo) (none : memo.store ≡ None)
      (over : has_stopped job memo.own ≡ true) (last : ℕ) (more : memo.step ≤ last)
      (fits : last ≤ job.steps) where
    abbrev at : IsStopped job (state_after job memo.step) i
    at = leb-true (length job.code) (counter job (state_after job memo.step) i)
        (ap (has_stopped job) (sym is_true.own) ∙ over)

    own_last : own_at job last i ≡ own_at job memo.step i
    own_last = ap (λ (t : ℕ). own_at job t i)
        (let e : last ≡ memo.step + (last - memo.step) = omega (arith, more) in e)
        ∙ stopped_own memo.step at (last - memo.step)

    told_last : settled_at job last i ≡ settled_at job memo.step i
    told_last = settled_between job i memo.step last more (λ s low less does.
        absurd (let rests = stopped_rests memo.step at s low in
        let f : true ≡ false = sym does ∙ rests in cc))

    stopped_idle : (t : ℕ) (kind : Kind) → memo.acted < phase_of (suc t) kind →
        phase_of (suc t) kind ≤ 3 * last → IsIdle job.rule kind job t i
    stopped_idle t kind after upto =
        let within = phase_within t kind in
        let high = within.1 in
        let reaches = reach_none memo none in
        elim (cases_lt t memo.step) [
          | inl less ↦ is_true.idle t kind after (omega (arith, reaches, less, high))
          | inr late ↦ idle_of job i t job.rule kind (stopped_rests memo.step at t late)
              (inr (stopped_store memo.step at t late))
              (λ e. stopped_store memo.step at t late)
        ]

    stopped_true : True (record memo { step = last })
    stopped_true = record {
      step = fits;
      own = is_true.own ∙ sym own_last;
      settled = is_true.settled ∙ sym told_last;
      told = is_true.told ∙ ap (λ (t : ℕ). own_at job t i) (sym told_last);
      store = λ write e. absurd (none-some write (sym none ∙ e));
      idle = λ t kind after upto. stopped_idle t kind after
          (let r = reach_most (record memo { step = last }) in omega (arith, upto, r));
    }

  -- ---- as far as it may

  goes_on_true : (more : ℕ) (memo : Memo) → True memo → True (goes_on_alone more job i memo)
  unfolding goes_on_alone
  goes_on_true zero memo is_true = is_true
  goes_on_true (suc more) memo is_true =
      cond_both (is_some memo.store || nat_le job.steps memo.step) _ _ True (λ e. is_true) (λ e.
      let free = or_parts _ _ e in
      let none = no_store memo.store free.0 in
      let early = leb-false job.steps memo.step free.1 in
      cond_both (has_stopped job memo.own) _ _ True
      (λ f. stopped_true memo is_true none f job.steps (omega (arith, early)) (omega arith))
      (λ f. cond_both (goes_alone job i memo) _ _ True
      (λ g. goes_on_true more (one_alone job i memo) (one_true memo is_true none early g))
      (λ g. is_true)))

  pub gone_on_true : (memo : Memo) → True memo → True (gone_on job i memo)
  gone_on_true memo is_true = goes_on_true (suc (steps_left memo)) memo is_true

  -- ---- a step that it worked out with a worker

  -- its store is carried out
  pub carried_true : (t : ℕ) (memo : Memo) → True memo → True (carried t memo)
  carried_true t memo is_true = cond_both (has_store t memo) _ _ True (λ has. record {
    step = is_true.step;
    own = is_true.own;
    settled = is_true.settled;
    told = is_true.told;
    store = λ write e. absurd (none-some write e);
    idle = λ s kind after upto. absurd (
        let same = eqb-true memo.step t (and_parts _ _ has).0 in
        omega (arith, after, upto, same));
  }) (λ other. is_true)

  -- its next step
  module _ (x : ℕ) (known : Memo) (is_true : True known) (at : known.step ≡ x) where
    abbrev R : Request
    R = request_in job (state_after job x) i

    own_here : known.own ≡ own_at job x i
    own_here = is_true.own ∙ ap (λ (t : ℕ). own_at job t i) at

    own_then : own_after job i known.own R ≡ own_at job (suc x) i
    own_then = ap (λ (own : Own). own_after job i own R) own_here ∙ own_next job i x limits proc

    settles_here : settles job x i ≡ settles_in job (suc x) known.settled known.own
    settles_here =
        subst (λ (t : ℕ). settles job t i ≡ settles_in job (suc t) known.settled known.own) at
        (settles_by known is_true)

    settled_then : (memo_after job (suc x) i known R).settled ≡ settled_at job (suc x) i
    settled_then = cond_both (settles_in job (suc x) known.settled known.own) (suc x) known.settled
        (λ (s : ℕ). s ≡ settled_at job (suc x) i)
        (λ does. sym (settled_new job i x (settles_here ∙ does)))
        (λ rests. is_true.settled ∙ ap (λ (t : ℕ). settled_at job t i) at
        ∙ sym (settled_same job i x (settles_here ∙ rests)))

    told_then : (memo_after job (suc x) i known R).told
        ≡ own_at job (settled_at job (suc x) i) i
    told_then = cond_both (settles_in job (suc x) known.settled known.own)
        (own_after job i known.own R) known.told
        (λ (own : Own). own ≡ own_at job (settled_at job (suc x) i) i)
        (λ does. own_then ∙ ap (λ (t : ℕ). own_at job t i) (sym (settled_new job i x
        (settles_here ∙ does))))
        (λ rests. is_true.told ∙ ap (λ (t : ℕ). own_at job (settled_at job t i) i) at
        ∙ ap (λ (t : ℕ). own_at job t i) (sym (settled_same job i x
        (settles_here ∙ rests))))

    pub after_true : suc x ≤ job.steps → True (memo_after job (suc x) i known R)
    after_true time = record {
      step = time;
      own = own_then;
      settled = settled_then;
      told = told_then;
      store = λ write e. e;
      idle = λ t kind after upto.
          let memo = memo_after job (suc x) i known R in
          let most = reach_most memo in
          let within = phase_within t kind in
          let low = within.0 in
          let high = within.1 in
          let same : x ≡ t = omega (arith, after, upto, most, low, high) in
          subst (λ (s : ℕ). IsIdle job.rule kind job s i) same
          (idle_later job i x job.rule kind (rw same (omega (arith, after, same)))
          (λ last. elim (reach_last memo) [
            | inl e ↦ e
            | inr e ↦ absurd (let up : 3 * suc t ≤ reach memo =
                subst (λ (k : Kind). phase_of (suc t) k ≤ reach memo) last upto in
                omega (arith, up, e, same))
          ]));
    }
