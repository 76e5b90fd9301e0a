-- What a replay prints of a program.
use Rattle.std.proofs.Common.{◌≡◌, ◌∙◌, ◌⊎◌, ◌++◌, ℕ, Bool, true, false, List, Option, Some}
use Rattle.std.proofs.Common.{ap, sym, subst, inl, inr, refl}
use Rattle.pram_job.specs.Job.{JobData}
use Rattle.pram_step.specs.declared.answer.RunAnswer.{RunAnswer}
use Rattle.pram_step.specs.declared.answer.RunAnswer.TheVariants.{Final, Conflict, Unfinished}
use Rattle.pram_step.specs.Runs.{IsAnswer}
use Rattle.stop_plan.specs.Plan.{PlanData}
use Rattle.pram_world.specs.Worlds.{start_compact}
use Rattle.pram_world.proofs.Counting.{run_board}
use Rattle.pram_run.specs.Replays.{IsReplay}
use Rattle.pram_run.specs.declared.trace.TraceRow.{TraceRow}
use Rattle.pardo_answers.specs.Language.{is_program}
use Rattle.pram_commands.specs.Did.{ending}
use Rattle.naming.specs.Names.{AreNames, NamingData}
use Rattle.command_law.specs.Laws.{IsCutOff}
use Rattle.command_law.specs.Programs.{IsReplaysEnding, ReplaysPrintTheProgramsAnswer}
use Rattle.command_law.proofs.Answers.{told_answer}
use Rattle.command_law.proofs.Jobs.{its_job}

-- how a replay ended
ended_so : (job : JobData) (plan : PlanData) (trace : List TraceRow) (ended : RunAnswer) →
    IsReplay job plan ended trace → IsAnswer job ended ⊎ IsCutOff plan (Some ended)
ended_so job plan trace (Final cells) is =
    inl (subst (λ (j : JobData). IsAnswer j (Final cells))
    (run_board (start_compact job plan.workers) is.schedule).0 is.outcome.2)
ended_so job plan trace (Conflict fault) is =
    inl (subst (λ (j : JobData). IsAnswer j (Conflict fault))
    (run_board (start_compact job plan.workers) is.schedule).0 is.outcome.1)
ended_so job plan trace (Unfinished step) is =
    inr (record { stops = is.stops tt; step = step; is = refl })

module _ (text : List ℕ) (job : JobData) (plan : PlanData) (answer : Option RunAnswer)
    (one : is_program text ≡ true) (names : Option NamingData) (ended : RunAnswer)
    (are : AreNames text job names) (gives : answer ≡ Some ended) where
  ends_so : (alone : Bool) → IsAnswer job ended ⊎ IsCutOff plan (Some ended) →
      IsReplaysEnding alone text job plan answer (ending alone names ended job.steps)
  ends_so true end = refl
  ends_so false (inl answers) = inl (told_answer text job names ended one are answers)
  ends_so false (inr cut) =
      inr (subst (λ (a : Option RunAnswer). IsCutOff plan a) (sym gives) cut)

pub replays_print : ReplaysPrintTheProgramsAnswer
replays_print text job plan alone workers bytes answer one comes =
    let back : List ℕ = ending alone comes.names comes.ended job.steps in
    let its = its_job text job comes.names one comes.are_names in record {
      naming = its.0;
      is = its.1;
      ended = comes.ended;
      trace = comes.ends.0;
      replays = comes.ends.1;
      back = back;
      prints = comes.prints ∙ ap (λ (front : List ℕ). front ++ back) comes.ends.2;
      ends = ends_so text job plan answer one comes.names comes.ended comes.are_names comes.gives
          alone (ended_so job plan comes.ends.0 comes.ended comes.ends.1);
    }
