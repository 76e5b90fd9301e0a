-- What became of a program's processors.
use Rattle.std.proofs.Common.{◌≡◌, ◌∙◌, ◌≢◌, ◌⊎◌, ℕ, zero, suc, ◌+◌, ◌<◌, ◌≤◌, List}
use Rattle.std.proofs.Common.{◌-◌, ◌*◌, Option, Some, None, ap, sym, subst, inl, inr, refl, arith}
use Rattle.std.proofs.Common.{⊎_elim, length, replicate}
use Rattle.std.specs.Prelude.{MatchOption, is_some, slice_index}
use Rattle.std.proofs.lemmas.Bool.{cases_lt}
use Rattle.std.proofs.lemmas.List.{get_or-append_right, get_or-replicate}
use Rattle.pram_job.specs.Job.{JobData, IsJob}
use Rattle.pram_machine.specs.Machine.{AllStopped, counter, counter_place, out_of_range, start}
use Rattle.pram_step.specs.declared.answer.Fault.{Fault}
use Rattle.pram_step.specs.declared.answer.RunAnswer.{RunAnswer}
use Rattle.pram_step.specs.declared.answer.RunAnswer.TheVariants.{Final, Conflict, Unfinished}
use Rattle.pram_step.specs.Runs.{AgreesAfter, IsAnswer, IsFault, IsReached, state_after}
use Rattle.pram_step.proofs.LawAnswer.{conflict_ends}
use Rattle.pram_step.proofs.LawFixed.{reached_down}
use Rattle.pram_rows.specs.declared.fates.End.{End}
use Rattle.pram_rows.specs.declared.fates.End.TheVariants.{Running, Stopped}
use Rattle.pram_rows.specs.declared.fates.Fates.{Fates}
use Rattle.pram_rows.specs.declared.fates.Lost.{Lost}
use Rattle.pram_rows.specs.Fates.{AllName, AreFates, AreMade as AreStepsMade, IsEnd as IsEndAfter}
use Rattle.pram_rows.specs.Fates.{IsFirstLost, IsFirstLostOrNone, NamesNone}
use Rattle.pardo_program.specs.Program.{ProgramData}
use Rattle.pardo_job.specs.Carries.{ShowsFlat}
use Rattle.pardo_job.specs.Compiled.{IsWhole}
use Rattle.pram_step.specs.declared.answer.Dispute.{Dispute}
use Rattle.pardo_job.specs.Leaving.{GoneIn, Leaves}
use Rattle.pardo_job.specs.Meaning.{after}
use Rattle.pardo_job.specs.Runs.{IsProgramConflict, IsProgramEnd, IsProgramOver, line_number}
use Rattle.pardo_job.specs.Runs as source
use Rattle.pardo_law.specs.Between.{AreLinesMade, IsInLine}
use Rattle.pardo_law.proofs.Showing.{whole_at}
use Rattle.naming.specs.Names.{IsNaming, NamingData}
use Rattle.pram_commands.specs.Why.{told_steps}
use Rattle.command_law.specs.Programs.{AllThere, IsEndOf, IsFirstGone, IsLostOf, IsProgramsJob}
use Rattle.command_law.specs.Programs.{SpeaksOf}
use Rattle.command_law.proofs.Executing.{halt_names, leaves_names, names_leaves, pid_names}
use Rattle.command_law.proofs.Jobs.{procs_are}

-- ---- while none names a cell that there is not, none is gone

start_counter : (job : JobData) (i : ℕ) → IsJob job → i < job.procs → counter job (start job) i ≡ 0
start_counter job i is_job lt =
    let len : length job.init ≡ job.cells = is_job.init_len in
    let past : job.cells ≤ counter_place job i = omega arith in
    let within : counter_place job i - job.cells < 5 * job.procs = omega arith in
    get_or-append_right job.init (replicate (5 * job.procs) 0) job.cells (counter_place job i) 0 len
    past ∙ get_or-replicate (5 * job.procs) (counter_place job i - job.cells) 0 0 within

there_so_far : (job : JobData) → IsJob job → (u i : ℕ) → i < job.procs →
    ((t : ℕ) → t < u → AllName job (state_after job t)) →
    counter job (state_after job u) i ≢ out_of_range job
unfolding state_after
there_so_far job is_job zero i lt all out =
    let begins : counter job (start job) i ≡ 0 = start_counter job i is_job lt in omega arith
there_so_far job is_job (suc u) i lt all out =
    let there = there_so_far job is_job u i lt (λ t low. all t (omega arith)) in
    let e : u + 1 ≡ suc u = omega arith in
    all u (omega arith) i (leaves_names job u i is_job lt (record {
      was_there = there;
      is_gone = ap (λ (n : ℕ). counter job (state_after job n) i) e ∙ out;
    }))

-- what is known of a job that ended so
abbrev pub IsKnown : JobData → RunAnswer → Type 0
IsKnown job (Final cells) = IsAnswer job (Final cells)
IsKnown job (Conflict fault) = IsFault job fault
IsKnown job (Unfinished step) = IsReached job step × (step < job.steps)

-- what is told of the end, where so many steps are made
abbrev EndOf : JobData → ℕ → ℕ → Option End → Type 0
EndOf job made n end = MatchOption end (made < n) (λ e. (made ≡ n) × IsEndAfter job n e)

-- where there is a state all steps are made
all_made : (job : JobData) (n made : ℕ) → AreStepsMade job n made → IsReached job n → n ≤ made
all_made job n made steps reached = ⊎_elim
    (λ (less : made < n). absurd (steps.against less (reached made less)))
    (λ (more : n ≤ made). more)
    (cases_lt made n)

module _ (text : List ℕ) (job : JobData) (naming : NamingData) (names : IsNaming text job naming)
    (is : IsProgramsJob text job naming) where
  abbrev program : ProgramData
  program = naming.program

  abbrev line_of : ℕ → ℕ
  line_of = slice_index naming.numbers

  abbrev time : ℕ → ℕ
  time = is.goes.carries.time

  is_job : IsJob job
  is_job = is.goes.carries.job_is

  whole : IsWhole job
  whole = names.makes.whole

  low : (i : ℕ) → i < program.procs → i < job.procs
  low i lt = let e = procs_are program job is.made in omega arith

  -- ---- how they are at the end

  -- all have stopped with the last step, and not before
  stopped_at : (step : ℕ) → IsReached job step → AllStopped job (state_after job step) →
      job.steps ≤ step
  stopped_at step reached stopped = (whole_at job step whole reached stopped).within

  -- so the last state is one in which all have
  all_stopped : IsReached job job.steps → AllStopped job (state_after job job.steps)
  all_stopped reached = by_whole whole
    where
      by_whole : IsWhole job → AllStopped job (state_after job job.steps)
      by_whole (inl stops) = stops.stopped
      by_whole (inr conflict) = absurd (conflict_ends job conflict.0 job.steps conflict.1
          (let e = conflict.2 in omega arith) reached)

  -- one that runs in a line stands in it
  in_line : (t n i : ℕ) → 1 ≤ t → (IsProgramOver program (after program n) → ⊥) →
      IsInLine program job line_of t (after program n) i →
      line_of (counter job (state_after job t) i) ≡ line_number program (after program n)
  in_line t n i some goes_on (inl comes) = comes
  in_line t n i some goes_on (inr (inl first)) = absurd (let e = first.0 in omega arith)
  in_line t n i some goes_on (inr (inr last)) = absurd (goes_on last.0)

  end_done : (cells : List ℕ) (made : ℕ) (end : Option End) → IsAnswer job (Final cells) →
      AreStepsMade job job.steps made → EndOf job made job.steps end →
      end ≡ Some (Stopped job.steps)
  end_done cells made None answers steps less =
      absurd (steps.against less (answers.1.reached made less))
  end_done cells made (Some (Running count first index)) answers steps ends =
      let stopped : AllStopped job (state_after job job.steps) =
      all_stopped answers.1.reached in
      let runs = ends.1.first_is.runs in
      let past = stopped first ends.1.first_is.within in
      absurd (omega arith)
  end_done cells made (Some (Stopped step)) answers steps ends =
      let within = ends.1.0 in
      let late = stopped_at step (reached_down job step job.steps within answers.1.reached)
      ends.1.1.stopped in
      let e : step ≡ job.steps = omega arith in
      ap (λ (n : ℕ). Some (Stopped n)) e

  end_disputed : (fault : Fault) (made : ℕ) (end : Option End) → IsFault job fault →
      AreStepsMade job job.steps made → EndOf job made job.steps end → end ≡ None
  end_disputed fault made None is_fault steps less = refl
  end_disputed fault made (Some end) is_fault steps ends =
      absurd (conflict_ends job fault job.steps is_fault.first is_fault.within
      (subst (IsReached job) ends.0 steps.reached))

  end_cut : (step made : ℕ) (end : Option End) → IsReached job step → step < job.steps →
      AreStepsMade job step made → EndOf job made step end →
      IsEndOf naming time job (Unfinished step) end
  end_cut step made None reached below steps less =
      absurd (steps.against less (reached made less))
  end_cut step made (Some (Stopped at)) reached below steps ends =
      let within = ends.1.0 in
      let late = stopped_at at (reached_down job at step within reached) ends.1.1.stopped in
      absurd (omega arith)
  end_cut step made (Some (Running count first index)) reached below steps ends = (
    count,
    first,
    index,
    refl,
    λ n some is_made goes_on.
        let lt : first < program.procs =
        (let e = procs_are program job is.made in
        let f = ends.1.first_is.within in omega arith) in
        ap line_of ends.1.index_is
        ∙ in_line step n first some goes_on (is.goes.lines step n first reached is_made lt
        ends.1.first_is.runs),
  )

  end_is : (ended : RunAnswer) (fates : Fates) → IsKnown job ended →
      AreFates job (told_steps job ended) fates → IsEndOf naming time job ended fates.end
  end_is (Final cells) fates known are =
      end_done cells are.made fates.end known are.are_made are.end_is
  end_is (Conflict fault) fates known are =
      end_disputed fault are.made fates.end known are.are_made are.end_is
  end_is (Unfinished step) fates known are =
      end_cut step are.made fates.end known.0 known.1 are.are_made are.end_is

  -- ---- who is lost

  gone_first : (n i : ℕ) → n ≡ 0 → (after program n).gone i ≡ None
  unfolding after
  gone_first n i e = ap (λ (k : ℕ). (after program k).gone i) e

  -- the job has such a state, and who is gone in the program is out of range there
  shown_reached : (n : ℕ) → ShowsFlat program job (after program n) (time n) →
      IsReached job (time n)
  shown_reached n (flat_source, stands, shows) = shows.0

  shown_gone : (n i number : ℕ) → ShowsFlat program job (after program n) (time n) →
      i < program.procs → (after program n).gone i ≡ Some number →
      counter job (state_after job (time n)) i ≡ out_of_range job
  shown_gone n i number (flat_source, stands, shows) lt e = shows.1.gone i lt
      (ap is_some (ap (λ (g : ℕ → Option ℕ). g i) stands.gone ∙ e))

  -- who is gone after lines that are made leaves in one of these steps
  all_there : (u n : ℕ) → source.IsLineReached program n → ((n ≡ 0) ⊎ (time n ≤ u)) →
      ((t : ℕ) → t < u → AllName job (state_after job t)) → AllThere program n
  all_there u n reached (inl none) all i lt = gone_first n i none
  all_there u n reached (inr late) all i lt = by_gone ((after program n).gone i) refl
    where
      by_gone : (g : Option ℕ) → (after program n).gone i ≡ g → (after program n).gone i ≡ None
      by_gone None e = e
      by_gone (Some number) e = absurd (there_so_far job is_job (time n) i (low i lt)
          (λ t less. all t (omega arith))
          (shown_gone n i number (is.goes.carries.shows n reached) lt e))

  lost_line : (t n i : ℕ) → NamesNone job (state_after job t) i →
      IsInLine program job line_of t (after program n) i →
      line_of (counter job (state_after job t) i) ≡ line_number program (after program n)
  lost_line t n i names_none (inl comes) = comes
  lost_line t n i names_none (inr (inl first)) = absurd (pid_names job t i first.1 names_none)
  lost_line t n i names_none (inr (inr last)) = absurd (halt_names job t i last.1 names_none)

  first_gone : (made : ℕ) (lost : Lost) → IsReached job made → IsFirstLost job made lost →
      IsFirstGone program lost.processor (line_of lost.index)
  first_gone made lost reached first =
      let names_none = first.first_is.names_none in
      let within = first.within in
      let here : IsReached job first.before =
      reached_down job first.before made (omega arith) reached in
      let then : IsReached job (first.before + 1) =
      reached_down job (first.before + 1) made (omega arith) reached in
      let found : (n : ℕ) × AreLinesMade program time first.before n =
      is.goes.made first.before here in
      let lt : lost.processor < program.procs =
      (let e = procs_are program job is.made in let f = names_none.within in omega arith) in
      let line : line_of lost.index ≡ line_number program (after program found.0) =
      ap line_of first.index_is ∙ lost_line first.before found.0 lost.processor names_none
      (is.goes.lines first.before found.0 lost.processor here found.1 lt names_none.runs) in
      record {
        lines = found.0;
        reached = found.1.reached;
        all_there = all_there first.before found.0 found.1.reached found.1.made
            first.none_before;
        leaves = is.goes.leaves first.before found.0 lost.processor then found.1 lt
            (names_leaves job first.before lost.processor is_job names_none)
            ∙ ap Some (sym line);
        in_line = line;
      }

  -- none was lost
  none_done : (cells : List ℕ) → IsAnswer job (Final cells) →
      ((t : ℕ) → t < job.steps → AllName job (state_after job t)) → (n : ℕ) →
      IsProgramEnd program n →
      AllThere program n
  none_done cells answers all n ends i lt = by_gone ((after program n).gone i) refl
      ((is.goes.carries.ends n ends).0.gone i lt)
    where
      by_gone : (g : Option ℕ) → (after program n).gone i ≡ g →
          GoneIn job line_of job.steps i ((after program n).gone i) →
          (after program n).gone i ≡ None
      by_gone None e gone = e
      by_gone (Some number) e gone =
          let left : Leaves job line_of job.steps i number =
          subst (GoneIn job line_of job.steps i) e gone in
          absurd (all left.before left.within i (leaves_names job left.before i is_job (low i lt)
          (record { was_there = left.was_there; is_gone = left.is_gone })))

  -- the lines before a conflict are made before its step
  made_before : (n before : ℕ) (dispute : Dispute) → IsProgramConflict program n dispute →
      time (n + 1) ≡ before + 1 → (AgreesAfter job before → ⊥) → time n ≤ before
  made_before n before dispute conflict e against = ⊎_elim
      (λ (low : time n < before + 1). omega arith)
      (λ (high : before + 1 ≤ time n). absurd (against
      (shown_reached n (is.goes.carries.shows n conflict.reached) before (omega arith))))
      (cases_lt (time n) (before + 1))

  none_disputed : (fault : Fault) (made : ℕ) → AreStepsMade job job.steps made →
      IsFault job fault → ((t : ℕ) → t < made → AllName job (state_after job t)) → (n : ℕ)
      (dispute : Dispute) → IsProgramConflict program n dispute → AllThere program n
  none_disputed fault made steps is_fault all n dispute conflict =
      let d = is.goes.carries.disputes n dispute conflict in
      let first = d.3.first in
      let step = first.step in
      let e : first.before ≡ d.0 = omega arith in
      let against : (AgreesAfter job d.0 → ⊥) = subst (λ (k : ℕ). AgreesAfter job k → ⊥) e
      (λ agrees. agrees _ _ _ first.dispute.clash) in
      let late : time n ≤ d.0 = made_before n d.0 dispute conflict d.1 against in
      let enough : d.0 ≤ made = ⊎_elim
      (λ (less : made < d.0). absurd (steps.against (let f = d.2 in omega arith)
      (subst (λ (k : ℕ). IsReached job k) e first.reached made less)))
      (λ (more : d.0 ≤ made). more)
      (cases_lt made d.0) in
      all_there d.0 n conflict.reached (inr late) (λ t less. all t (omega arith))

  none_lost : (ended : RunAnswer) (made : ℕ) → IsKnown job ended →
      AreStepsMade job (told_steps job ended) made →
      ((t : ℕ) → t < made → AllName job (state_after job t)) → (n : ℕ) →
      SpeaksOf program time ended n → AllThere program n
  none_lost (Final cells) made known steps all n speaks =
      none_done cells known (λ t less. all t (let e = all_made job job.steps made steps
      known.1.reached in omega arith)) n speaks
  none_lost (Conflict fault) made known steps all n speaks =
      none_disputed fault made steps known all n _ speaks
  none_lost (Unfinished step) made known steps all n speaks =
      all_there step n speaks.reached speaks.made
      (λ t less. all t (let e = all_made job step made steps known.0 in omega arith))

  lost_is : (ended : RunAnswer) (made : ℕ) (lost : Option Lost) → IsKnown job ended →
      AreStepsMade job (told_steps job ended) made → IsFirstLostOrNone job made lost →
      IsLostOf naming time ended lost
  lost_is ended made None known steps all = none_lost ended made known steps all
  lost_is ended made (Some lost) known steps first = first_gone made lost steps.reached first

  pub fates_are : (ended : RunAnswer) (fates : Fates) → IsKnown job ended →
      AreFates job (told_steps job ended) fates →
      IsEndOf naming time job ended fates.end × IsLostOf naming time ended fates.lost
  fates_are ended fates known are = (
    end_is ended fates known are,
    lost_is ended are.made fates.lost known are.are_made are.lost_is,
  )
