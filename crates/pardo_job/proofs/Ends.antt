-- How a run ends, for the job that has as many steps.
use Rattle.std.proofs.Common.{◌≡◌, ℕ, suc, ◌+◌, ◌-◌, ◌<◌, List, Option, None, Some, take}
use Rattle.std.proofs.Common.{refl, sym, ap, subst, ◌∙◌, inl, inr, get_or, length, arith}
use Rattle.std.specs.Prelude.{slice_index}
use Rattle.std.proofs.lemmas.Option.{get_or_from_slice_get, slice_get_within}
use Rattle.pram_job.specs.Job.{JobData, IsJob}
use Rattle.pram_step.specs.declared.answer.Dispute.{Dispute}
use Rattle.pram_step.specs.declared.answer.Fault.{Fault}
use Rattle.pram_step.specs.declared.answer.RunAnswer.TheVariants.{Final, Conflict}
use Rattle.pram_step.specs.declared.last.LastRow.{LastRow}
use Rattle.pram_step.specs.declared.walks.Walked.{Walked}
use Rattle.pram_step.specs.declared.walks.Walked.TheVariants.{Through, Disputed}
use Rattle.pram_machine.specs.declared.requests.Request.{Request}
use Rattle.pram_machine.specs.Machine.{State, AllStopped, counter, out_of_range}
use Rattle.pram_machine.proofs.Shapes.{asked_by}
use Rattle.pram_step.specs.Last.{AreLast, last_row}
use Rattle.pram_step.specs.Running.{IsStop}
use Rattle.pram_step.specs.Runs.{IsFault, IsFirstConflict, IsReached, IsStateAfter}
use Rattle.pram_step.specs.Runs.{dispute_of, requests_after, state_after}
use Rattle.pram_step.specs.Steps.{IsDispute}
use Rattle.pram_step.specs.Walks.{IsSeenUntil, IsWalked, begun}
use Rattle.pram_step.proofs.Lasts.{after_run, gone_ran, next_runs}
use Rattle.pram_step.proofs.LawAnswer.{conflict_ends, one_conflict}
use Rattle.pram_step.proofs.LawFixed.{reached_down}
use Rattle.pram_step.proofs.LawRules.{asked_same, clash_same, state_same, steps_agree, writes_same}
use Rattle.pram_step.proofs.LawStopped.{stopped_later, writer_runs}
use Rattle.pardo_job.specs.declared.ended.Ended.{Ended}
use Rattle.pardo_job.specs.declared.ended.Lines.{Lines}
use Rattle.pardo_job.specs.declared.run.Rest.{Rest}
use Rattle.pardo_job.specs.declared.run.Run.{Run}
use Rattle.pardo_job.specs.declared.run.Run.TheVariants as run
use Rattle.pardo_job.specs.Compiled.{CompiledData, IsWhole}
use Rattle.pardo_job.specs.Ends.{AreGone, HasEnded, IsDisputedIn, gone_in}
use Rattle.pardo_job.specs.Inner.Endings.{IsFinished, IsLong, IsRest, IsSeenBy, IsThrough}
use Rattle.pardo_job.specs.Leaving.{GoneIn, Leaves}
use Rattle.pardo_job.specs.Refusals.{FirstRunningStandsAt, most_steps}

abbrev pub with_steps : JobData → ℕ → JobData
with_steps job n = record job { steps = n }

reached_with : (job : JobData) (n t : ℕ) → IsReached job t → IsReached (with_steps job n) t
reached_with job n t reached s lt = steps_agree job job.rule job.steps n s (reached s lt)

state_with : (job : JobData) (n t : ℕ) → state_after (with_steps job n) t ≡ state_after job t
state_with job n t = state_same job job.rule n t

dispute_with : (job : JobData) (n : ℕ) (requests : List Request) (d : Dispute) →
    IsDispute job requests d → IsDispute (with_steps job n) requests d
dispute_with job n requests d is = record {
  clash = clash_same job job.rule job.steps n requests d.cell d.first d.second is.clash;
  least_cell = λ cell i j clash.
      is.least_cell cell i j (clash_same job job.rule n job.steps requests cell i j clash);
  least_first = λ i v writes. is.least_first i v
      (writes.0, writes_same job job.rule job.rule n job.steps requests d.cell i v writes.1);
  least_second = λ j clash. is.least_second j
      (clash_same job job.rule n job.steps requests d.cell d.first j clash);
}

conflict_with : (job : JobData) (n : ℕ) (fault : Fault) → IsFirstConflict job fault →
    IsFirstConflict (with_steps job n) fault
conflict_with job n fault is = record {
  before = is.before;
  step = is.step;
  reached = reached_with job n is.before is.reached;
  dispute = subst
      (λ (requests : List Request). IsDispute (with_steps job n) requests (dispute_of fault))
      (sym (asked_same job job.rule n is.before))
      (dispute_with job n (requests_after job is.before) (dispute_of fault) is.dispute);
}

whole_by_conflict : (job : JobData) (fault : Fault) → IsFirstConflict job fault →
    IsWhole (with_steps job fault.step)
whole_by_conflict job fault is = inr (fault, conflict_with job fault.step fault is, refl)

whole_by_stop : (job : JobData) (t : ℕ) → IsReached job t → IsStop job t →
    IsWhole (with_steps job t)
whole_by_stop job t reached stop = inl (record {
  reached = reached_with job t t reached;
  stopped = subst (λ (s : State). AllStopped job s) (sym (state_with job t t)) stop.stopped;
  runs = λ u lt stopped.
      stop.runs u lt (subst (λ (s : State). AllStopped job s) (state_with job t u) stopped);
})

-- ---- what is seen of a run

-- a step that is against the rule comes before all have stopped
seen_conflict : (job : JobData) (fault : Fault) (stopped : Option ℕ) (has_seen : ℕ → Type 0) →
    IsFirstConflict job fault → IsSeenUntil job fault.step stopped has_seen → has_seen fault.step
seen_conflict job fault None has_seen conflict seen = seen.1
seen_conflict job fault (Some n) has_seen conflict seen =
    let step = conflict.step in
    let before = seen.0 in
    let is : IsStateAfter job n (state_after job n) = record {
      reached = reached_down job n conflict.before (omega arith) conflict.reached;
      state = refl;
    } in
    let e : n + (fault.step - n) ≡ fault.step = omega arith in
    absurd (conflict_ends job fault fault.step conflict (omega arith) (subst (IsReached job) e
    (stopped_later job n (fault.step - n) (state_after job n) is seen.1.stopped).reached))

module _ (job : JobData) (walked : Walked) (stopped : Option ℕ) (has_seen : ℕ → Type 0)
    (walk : IsWalked job (most_steps job) walked)
    (seen : IsSeenUntil job (begun (most_steps job) walked) stopped has_seen) where
  pub disputed_run : (fault : Fault) → walked ≡ Disputed fault →
      IsFirstConflict job fault × has_seen fault.step
  disputed_run fault is =
      let found = (subst (IsWalked job (most_steps job)) is walk).0 in (
        found,
        seen_conflict job fault stopped has_seen found (subst (λ (w : Walked).
            IsSeenUntil job (begun (most_steps job) w) stopped has_seen) is seen),
      )

  pub through_run : (state : State) → walked ≡ Through state →
      IsStateAfter job (most_steps job) state × IsSeenUntil job (most_steps job) stopped has_seen
  through_run state is = (
    subst (IsWalked job (most_steps job)) is walk,
    subst (λ (w : Walked). IsSeenUntil job (begun (most_steps job) w) stopped has_seen) is seen,
  )

-- each of two
pub both_seen : (job : JobData) (stopped : Option ℕ) (first second : ℕ → Type 0) →
    IsSeenUntil job (most_steps job) stopped (λ n. first n × second n) →
    IsSeenUntil job (most_steps job) stopped first × IsSeenUntil job (most_steps job) stopped second
both_seen job None first second seen = ((seen.0, seen.1.0), (seen.0, seen.1.1))
both_seen job (Some n) first second seen =
    ((seen.0, seen.1, seen.2.0), (seen.0, seen.1, seen.2.1))

-- what is seen until all have stopped is seen of the run
pub run_seen : (job : JobData) (stopped : Option ℕ) (ran : Run) (has_seen : ℕ → Type 0) →
    IsLong job stopped ran → IsSeenUntil job (most_steps job) stopped has_seen → IsSeenBy ran has_seen
run_seen job None (run.Stopped rest) has_seen long seen = subst has_seen (sym long) seen.1
run_seen job (Some n) (run.Stopped rest) has_seen long seen = subst has_seen (sym long) seen.2
run_seen job stopped (run.Disputed fault last) has_seen long seen = absurd long
run_seen job stopped (run.Endless index) has_seen long seen = tt

-- the state is that after the steps after which all had stopped
stopped_state : (job : JobData) (n t : ℕ) (state : State) → n < t → IsStateAfter job t state →
    AllStopped job (state_after job n) → IsStateAfter job n state
stopped_state job n t state less after stopped =
    let reached = reached_down job n t (omega arith) after.reached in
    let is : IsStateAfter job n (state_after job n) = record { reached = reached; state = refl } in
    let e : n + (t - n) ≡ t = omega arith in
    record {
      reached = reached;
      state = after.state ∙ sym (ap (state_after job) e)
          ∙ sym (stopped_later job n (t - n) (state_after job n) is stopped).state;
    }

pub stopped_rest : (job : JobData) (found : Option ℕ) (rest : Rest) →
    found ≡ Some rest.steps → IsThrough job found rest.state rest.last.items → IsRest job rest
stopped_rest job found rest is = subst (λ (o : Option ℕ).
    IsThrough job o rest.state rest.last.items → IsRest job rest) (sym is) (λ through. record {
      after = stopped_state job rest.steps (most_steps job) rest.state through.1.0 through.0
          through.1.1.stopped;
      stop = through.1.1;
      last = through.1.2;
    })

pub most_rest : (job : JobData) (rest : Rest) → rest.steps ≡ most_steps job →
    IsThrough job None rest.state rest.last.items → AllStopped job rest.state → IsRest job rest
most_rest job rest is through stopped = record {
  after = subst (λ (n : ℕ). IsStateAfter job n rest.state) (sym is) through.0;
  stop = subst (IsStop job) (sym is) (record {
    stopped = subst (λ (s : State). AllStopped job s) through.0.state stopped;
    runs = through.1.0;
  });
  last = subst (λ (n : ℕ). AreLast job n rest.last.items) (sym is) through.1.1;
}

-- somebody runs after as many steps as are made at most
pub endless_run : (job : JobData) (state : State) (index : ℕ) →
    IsStateAfter job (most_steps job) state → FirstRunningStandsAt job state index →
    IsReached job (most_steps job)
    × FirstRunningStandsAt job (state_after job (most_steps job)) index
endless_run job state index after first =
    (after.reached, subst (λ (s : State). FirstRunningStandsAt job s index) after.state first)

-- ---- in which lines

-- each processor has its row
pub row_within : (job : JobData) (t i : ℕ) (rows : List LastRow) → i < job.procs →
    AreLast job t rows → i < length rows
row_within job t i rows low last = slice_get_within rows i (last_row job t i) (last i low)

pub row_at : (job : JobData) (t i : ℕ) (rows : List LastRow) (d : LastRow) → i < job.procs →
    AreLast job t rows → get_or rows i d ≡ last_row job t i
row_at job t i rows d low last = get_or_from_slice_get rows i (last_row job t i) d (last i low)

-- who is gone has left by the instruction that it executed last
pub gone_leaves : (job : JobData) (line_of : ℕ → ℕ) (t i index number : ℕ) → IsJob job →
    i < job.procs → counter job (state_after job t) i ≡ out_of_range job →
    index ≡ (last_row job t i).index → number ≡ line_of index → Leaves job line_of t i number
gone_leaves job line_of t i index number is_job low gone at is =
    let ran = gone_ran job t i is_job low gone in
    let runs = ran.runs in
    record {
      before = ran.before;
      within = ran.within;
      was_there = λ e. absurd (omega arith);
      is_gone = after_run job t i (last_row job t i) is_job low ran ∙ gone;
      comes = ap line_of (sym ran.index ∙ sym at) ∙ sym is;
    }

pub first_within : (job : JobData) (fault : Fault) → IsFirstConflict job fault →
    fault.first < job.procs
first_within job fault conflict =
    asked_by job (state_after job conflict.before) fault.first _
    conflict.dispute.clash.writes.1.request_is

-- the first processor of a conflict executed its store last
pub disputed_in : (job : JobData) (line_of : ℕ → ℕ) (fault : Fault) (index number : ℕ) →
    IsFirstConflict job fault → index ≡ (last_row job fault.step fault.first).index →
    number ≡ line_of index → IsDisputedIn job line_of fault number
disputed_in job line_of fault index number conflict at is =
    let clash = conflict.dispute.clash in
    let runs = writer_runs job (state_after job conflict.before) fault.cell fault.first clash.value
    clash.writes.0 clash.writes.1 in
    let step = conflict.step in
    let e : fault.step ≡ suc conflict.before = omega arith in
    let row : (last_row job fault.step fault.first).index
    ≡ counter job (state_after job conflict.before) fault.first =
    ap (λ (n : ℕ). (last_row job n fault.first).index) e
    ∙ ap (λ (r : LastRow). r.index) (next_runs job conflict.before fault.first runs) in
    record {
      before = conflict.before;
      step = conflict.step;
      comes = ap line_of (sym row ∙ sym at) ∙ sym is;
    }

-- ---- of the job that has as many steps

counter_with : (job : JobData) (n t i : ℕ) →
    counter job (state_after (with_steps job n) t) i ≡ counter job (state_after job t) i
counter_with job n t i = ap (λ (s : State). counter job s i) (state_with job n t)

gone_with : (job : JobData) (n : ℕ) (line_of : ℕ → ℕ) (t i : ℕ) (line : Option ℕ) →
    GoneIn job line_of t i line → GoneIn (with_steps job n) line_of t i line
gone_with job n line_of t i None is = λ gone. is (sym (counter_with job n t i) ∙ gone)
gone_with job n line_of t i (Some number) is = record {
  before = is.before;
  within = is.within;
  was_there = λ gone. is.was_there (sym (counter_with job n is.before i) ∙ gone);
  is_gone = counter_with job n (is.before + 1) i ∙ is.is_gone;
  comes = ap line_of (counter_with job n is.before i) ∙ is.comes;
}

-- how it ends where all have stopped
pub ended_rest : (job : JobData) (line_of : ℕ → ℕ) (rest : Rest) (cells : List ℕ)
    (lines : Lines) → IsRest job rest → cells ≡ take job.cells rest.state →
    AreGone job line_of rest.steps (gone_in lines.gone.items) →
    HasEnded (with_steps job rest.steps) line_of
    (record { answer = Final cells; lines = lines })
ended_rest job line_of rest cells lines is cells_are gone =
    let t = rest.steps in
    let whole = with_steps job t in
    let reached : IsReached whole t = reached_with job t t is.after.reached in
    record {
      answers = (
        rest.state,
        record { reached = reached; state = is.after.state ∙ sym (state_with job t t) },
        cells_are,
      );
      ends_in = record {
        gone = λ _ i low. gone_with job t line_of t i (gone_in lines.gone.items i) (gone i low);
        disputed = λ fault found.
            absurd (conflict_ends whole fault t found.first found.within reached);
      };
    }

-- and where a step is against the rule
pub ended_disputed : (job : JobData) (line_of : ℕ → ℕ) (fault : Fault) (lines : Lines) →
    IsFirstConflict job fault → IsDisputedIn job line_of fault lines.disputed →
    HasEnded (with_steps job fault.step) line_of
    (record { answer = Conflict fault; lines = lines })
ended_disputed job line_of fault lines conflict comes =
    let whole = with_steps job fault.step in
    let is : IsFault whole fault = record {
      first = conflict_with job fault.step fault conflict;
      within = omega arith;
    } in
    let comes_with : IsDisputedIn whole line_of fault lines.disputed = record {
      before = comes.before;
      step = comes.step;
      comes = ap line_of (counter_with job fault.step comes.before fault.first) ∙ comes.comes;
    } in
    record {
      answers = is;
      ends_in = record {
        gone = λ reached.
            absurd (conflict_ends whole fault fault.step is.first is.within reached);
        disputed = λ other is_too.
            subst (λ (f : Fault). IsDisputedIn whole line_of f lines.disputed)
            (one_conflict whole fault other is.first is_too.first) comes_with;
      };
    }

-- ---- what is compiled

pub finished_rest : (job : JobData) (numbers : List ℕ) (rest : Rest) (cells : List ℕ)
    (lines : Lines) (compiled : CompiledData) → IsRest job rest →
    compiled.job ≡ with_steps job rest.steps → compiled.numbers ≡ numbers →
    compiled.ended ≡ record { answer = Final cells; lines = lines } →
    cells ≡ take job.cells rest.state →
    AreGone job (slice_index numbers) rest.steps (gone_in lines.gone.items) →
    IsFinished job numbers compiled
finished_rest job numbers rest cells lines compiled is job_is numbers_are ended_is cells_are gone =
    record {
      job_is = job_is ∙ ap (with_steps job) (ap (λ (j : JobData). j.steps) (sym job_is));
      numbers_are = numbers_are;
      whole = subst IsWhole (sym job_is) (whole_by_stop job rest.steps is.after.reached is.stop);
      ended = subst (λ (e : Ended). HasEnded compiled.job (slice_index numbers) e) (sym ended_is)
          (subst (λ (j : JobData). HasEnded j (slice_index numbers)
          (record { answer = Final cells; lines = lines })) (sym job_is)
          (ended_rest job (slice_index numbers) rest cells lines is cells_are gone));
    }

pub finished_disputed : (job : JobData) (numbers : List ℕ) (fault : Fault) (lines : Lines)
    (compiled : CompiledData) → IsFirstConflict job fault →
    compiled.job ≡ with_steps job fault.step → compiled.numbers ≡ numbers →
    compiled.ended ≡ record { answer = Conflict fault; lines = lines } →
    IsDisputedIn job (slice_index numbers) fault lines.disputed →
    IsFinished job numbers compiled
finished_disputed job numbers fault lines compiled is job_is numbers_are ended_is comes = record {
  job_is = job_is ∙ ap (with_steps job) (ap (λ (j : JobData). j.steps) (sym job_is));
  numbers_are = numbers_are;
  whole = subst IsWhole (sym job_is) (whole_by_conflict job fault is);
  ended = subst (λ (e : Ended). HasEnded compiled.job (slice_index numbers) e) (sym ended_is)
      (subst (λ (j : JobData). HasEnded j (slice_index numbers)
      (record { answer = Conflict fault; lines = lines })) (sym job_is)
      (ended_disputed job (slice_index numbers) fault lines is comes));
}
