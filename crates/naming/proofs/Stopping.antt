-- Jobs that differ in their number of steps alone, where all processors of the longer one stop.
use Rattle.std.proofs.Common.{◌≡◌, ◌∙◌, ℕ, ◌+◌, ◌-◌, ◌<◌, ◌≤◌, List, [], Option, ap, arith, inl, inr}
use Rattle.std.proofs.Common.{refl, subst, sym}
use Rattle.std.specs.Prelude.{slice_index}
use Rattle.pram_job.specs.Job.{IsJob, JobData}
use Rattle.pram_machine.specs.Machine.{AllStopped, State, counter, halted, out_of_range}
use Rattle.pram_step.specs.Runs.{IsAnswer, IsFault, IsFirstConflict, IsReached, IsStateAfter}
use Rattle.pram_step.specs.Runs.{state_after}
use Rattle.pram_step.specs.declared.answer.Fault.{Fault}
use Rattle.pram_step.specs.declared.answer.RunAnswer.{RunAnswer}
use Rattle.pram_step.specs.declared.answer.RunAnswer.TheVariants.{Conflict, Final, Unfinished}
use Rattle.pram_step.proofs.LawAnswer.{conflict_ends, one_conflict}
use Rattle.pram_step.proofs.LawAnswers.{longer_conflict}
use Rattle.pram_step.proofs.LawRules.{state_same, steps_agree}
use Rattle.pram_step.proofs.LawStopped.{stopped_later}
use Rattle.pram_board.specs.Stops.{StopsThere}
use Rattle.pardo_program.specs.Program.{ProgramData}
use Rattle.pardo_flat.specs.Flat.{flat}
use Rattle.pardo_job.specs.Compiled.{IsWhole, Stops}
use Rattle.pardo_job.specs.Ends.{AreGone, HasEnded, gone_in}
use Rattle.pardo_job.specs.Lines.{job_of}
use Rattle.pardo_job.specs.declared.compiler.Draft.{Draft}
use Rattle.pardo_job.specs.declared.ended.Lines.{Lines}
use Rattle.naming.specs.Drafted.{IsCounted, IsDrafted}

abbrev pub with_steps : JobData → ℕ → JobData
with_steps job n = record job { steps = n }

reached_with : (job : JobData) (n t : ℕ) → IsReached job t → IsReached (with_steps job n) t
reached_with job n t reached s lt = steps_agree job job.rule job.steps n s (reached s lt)

reached_from : (job : JobData) (n t : ℕ) → IsReached (with_steps job n) t → IsReached job t
reached_from job n t reached s lt = steps_agree job job.rule n job.steps s (reached s lt)

state_with : (job : JobData) (n t : ℕ) → state_after (with_steps job n) t ≡ state_after job t
state_with job n t = state_same job job.rule n t

-- where all have stopped, each later state is this one
stays : (job : JobData) (t u : ℕ) → t ≤ u → IsReached job t → AllStopped job (state_after job t) →
    IsStateAfter job u (state_after job t)
stays job t u low reached stopped =
    let is : IsStateAfter job t (state_after job t) = record { reached = reached; state = refl } in
    let e : t + (u - t) ≡ u = omega arith in
    subst (λ (n : ℕ). IsStateAfter job n (state_after job t)) e
    (stopped_later job t (u - t) (state_after job t) is stopped)

-- ---- fewer steps

fewer_final : (job : JobData) (most : ℕ) (cells : List ℕ) → Stops job → job.steps ≤ most →
    IsAnswer (with_steps job most) (Final cells) → IsAnswer job (Final cells)
fewer_final job most cells stops low answer = (
  answer.0,
  record {
    reached = stops.reached;
    state = answer.1.state ∙ state_with job most most
        ∙ sym (stays job job.steps most low stops.reached stops.stopped).state;
  },
  answer.2,
)

-- a job that stops is not against its rule later
never_disputed : (job : JobData) (most : ℕ) (fault : Fault) → Stops job → job.steps ≤ most →
    IsFault (with_steps job most) fault → ⊥
never_disputed job most fault stops low found =
    conflict_ends (with_steps job most) fault most found.first found.within
    (reached_with job most most (stays job job.steps most low stops.reached stops.stopped).reached)

fewer_disputed : (job : JobData) (most : ℕ) (fault : Fault) (answer : RunAnswer) →
    IsFirstConflict job fault → fault.step ≡ job.steps → job.steps ≤ most →
    IsAnswer (with_steps job most) answer → IsAnswer job answer
fewer_disputed job most fault (Final cells) first last low answer =
    absurd (conflict_ends job fault most first (omega arith)
    (reached_from job most most answer.1.reached))
fewer_disputed job most fault (Conflict other) first last low answer =
    let within : fault.step ≤ job.steps = omega arith in
    let here : IsFault job fault = record { first = first; within = within } in
    let there = (longer_conflict job most fault low within).0 here in
    subst (IsFault job)
    (one_conflict (with_steps job most) fault other there.first answer.first) here
fewer_disputed job most fault (Unfinished step) first last low answer = answer

-- what a job of more steps ends with, this one ends with, if it has as many as it needs
pub fewer_steps : (job : JobData) (most : ℕ) (answer : RunAnswer) → IsWhole job →
    job.steps ≤ most → IsAnswer (record job { steps = most }) answer → IsAnswer job answer
fewer_steps job most answer (inr is) low found =
    fewer_disputed job most is.0 answer is.1 is.2 low found
fewer_steps job most (Final cells) (inl stops) low found =
    fewer_final job most cells stops low found
fewer_steps job most (Conflict fault) (inl stops) low found =
    absurd (never_disputed job most fault stops low found)
fewer_steps job most (Unfinished step) (inl stops) low found = found

-- ---- the job that ends with its last step

module _ (longer : JobData) (step : ℕ) (stop : StopsThere longer step) where
  same_state : state_after (with_steps longer step) step ≡ state_after longer step
  same_state = state_with longer step step

  pub stops_whole : IsWhole (with_steps longer step)
  stops_whole = inl (record {
    reached = reached_with longer step step stop.reached;
    stopped = subst (λ (s : State). AllStopped longer s) (sym same_state) stop.stop.stopped;
    runs = λ t lt stopped. stop.stop.runs t lt
        (subst (λ (s : State). AllStopped longer s) (state_with longer step t) stopped);
  })

  cells_there : (cells : List ℕ) → IsAnswer longer (Final cells) →
      IsAnswer (with_steps longer step) (Final cells)
  cells_there cells answer = (
    answer.0,
    record {
      reached = reached_with longer step step stop.reached;
      state = answer.1.state
          ∙ sym (stays longer step longer.steps stop.within stop.reached stop.stop.stopped).state
          ∙ sym same_state;
    },
    answer.2,
  )

  -- each processor is there: it stands at its end
  nobody_gone : (i : ℕ) → i < longer.procs →
      counter longer (state_after (with_steps longer step) step) i ≡ out_of_range longer → ⊥
  nobody_gone i low gone =
      let ends : counter longer (state_after (with_steps longer step) step) i ≡ halted longer =
      ap (λ (s : State). counter longer s i) same_state ∙ stop.ends i low in
      absurd (omega arith)

  pub stops_ended : (line_of : ℕ → ℕ) (cells : List ℕ) (lines : Lines) →
      IsAnswer longer (Final cells) → lines.gone.items ≡ [] →
      HasEnded (with_steps longer step) line_of (record { answer = Final cells; lines = lines })
  stops_ended line_of cells lines answer none =
      let whole = with_steps longer step in
      let reached : IsReached whole step = reached_with longer step step stop.reached in
      record {
        answers = cells_there cells answer;
        ends_in = record {
          gone = λ _. subst (λ (gone : List (Option ℕ)). AreGone whole line_of step (gone_in gone))
              (sym none) nobody_gone;
          disputed = λ fault found.
              absurd (conflict_ends whole fault step found.first found.within reached);
        };
      }

-- ---- what is drafted

with_more : (program : ProgramData) (n : ℕ) → with_steps (job_of program 0) n ≡ job_of program n
unfolding job_of
with_more program n = refl

module _ (text : List ℕ) (draft : Draft) (is : IsDrafted text draft) where
  made_with : (n : ℕ) → with_steps draft.job n ≡ job_of (flat draft.program) n
  made_with n = ap (λ (j : JobData). with_steps j n) is.made.made ∙ with_more (flat draft.program) n

  -- a job that is made has the steps alone that the drafted one has not
  pub made_is : (job : JobData) → job ≡ job_of (flat draft.program) job.steps →
      job ≡ with_steps draft.job job.steps
  made_is job made = made ∙ sym (made_with job.steps)

  -- the job of fewer steps, where the job of more stops
  pub stopped_names : (longer : JobData) (step : ℕ) (cells : List ℕ) (lines : Lines)
      (job : JobData) → longer ≡ with_steps draft.job longer.steps → StopsThere longer step →
      IsAnswer longer (Final cells) → IsJob job → job ≡ with_steps draft.job step →
      lines.gone.items ≡ [] →
      IsCounted text draft job (record {
        program = draft.program;
        places = draft.places.items;
        numbers = draft.numbers.items;
        ended = record { answer = Final cells; lines = lines };
      })
  stopped_names longer step cells lines job longer_is stop answer is_job job_is none =
      let line_of = slice_index draft.numbers.items in
      let same : job ≡ with_steps longer step =
      job_is ∙ sym (ap (λ (j : JobData). with_steps j step) longer_is) in
      let steps : job.steps ≡ step = ap (λ (j : JobData). j.steps) job_is in
      let drafted : job ≡ with_steps draft.job job.steps =
      job_is ∙ ap (with_steps draft.job) (sym steps) in
      record {
        job_is = drafted;
        names = record {
          is_one = is.is_one;
          reads = is.reads;
          begins = is.begins;
          makes = record {
            job_is = is_job;
            made = drafted ∙ made_with job.steps;
            level = is.made.level;
            numbers = λ index. ap (λ (l : List ℕ). slice_index l index) is.made.numbers_are;
            whole = subst IsWhole (sym same) (stops_whole longer step stop);
          };
          ends = subst (λ (j : JobData). HasEnded j line_of
              (record { answer = Final cells; lines = lines })) (sym same)
              (stops_ended longer step stop line_of cells lines answer none);
        };
      }
