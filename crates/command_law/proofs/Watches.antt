-- What a watch prints of a program.
use Rattle.std.proofs.Common.{◌≡◌, ◌∙◌, ◌⊎◌, ◌++◌, ℕ, List, Option, Some, None, true, ap, sym}
use Rattle.std.proofs.Common.{subst, inl, inr}
use Rattle.std.specs.Prelude.{slice_index}
use Rattle.pram_job.specs.Job.{JobData}
use Rattle.pram_step.specs.declared.answer.RunAnswer.{RunAnswer}
use Rattle.pram_step.specs.Runs.{IsAnswer, state_after}
use Rattle.stop_plan.specs.Plan.{PlanData}
use Rattle.pram_run.specs.declared.sight.Sight.{Sight}
use Rattle.pardo_program.specs.Program.{ProgramData}
use Rattle.pardo_law.specs.Between.{AreLinesMade, GoesThrough, HoldsVariables}
use Rattle.pardo_job.specs.Meaning.{after}
use Rattle.pardo_answers.specs.Language.{is_program}
use Rattle.naming.specs.CellLists.{AreCellsOf}
use Rattle.pram_commands.specs.Did.{Answering}
use Rattle.naming.specs.Names.{AreNames, NamingData, printed_answer}
use Rattle.pram_commands.specs.Threads.{IsTrueOf, TellsSights}
use Rattle.command_law.specs.Laws.{IsCutOff, IsProgramsAnswer}
use Rattle.command_law.specs.Programs.{IsProgramsWatch, IsSightOf, WatchesTellThePrograms}
use Rattle.command_law.proofs.Answers.{told_answer}
use Rattle.command_law.proofs.Jobs.{ended_watch, no_machines, programs_job}

pub sight_of : (program : ProgramData) (job : JobData) (line_of : ℕ → ℕ)
    (goes : GoesThrough program job line_of) (sight : Sight) → IsTrueOf job sight →
    IsSightOf program goes.carries.time sight
sight_of program job line_of goes sight is =
    let found : (n : ℕ) × AreLinesMade program goes.carries.time sight.step n =
    goes.made sight.step is.reached in
    let held : HoldsVariables program (after program found.0) (state_after job sight.step) =
    goes.holds sight.step found.0 is.reached found.1 in record {
      lines = found.0;
      are_made = found.1;
      place = λ low. is.value ∙ held.cells sight.cell low;
      private = λ x i lt less e. is.value
          ∙ ap (slice_index (state_after job sight.step)) e ∙ held.privates x i lt less;
    }

module _ (text : List ℕ) (job : JobData) (plan : PlanData) (rounds : ℕ) (parts : List (List ℕ))
    (bytes : List ℕ) (answer : Option RunAnswer) (one : is_program text ≡ true) where
  -- the answer after the sights
  ends_so : (names : Option NamingData) (ended : RunAnswer) → AreNames text job names →
      answer ≡ Some ended → IsAnswer job ended ⊎ IsCutOff plan (Some ended) →
      IsProgramsAnswer text job (printed_answer names ended job.steps) ⊎ IsCutOff plan answer
  ends_so names ended are gives (inl is) = inl (told_answer text job names ended one are is)
  ends_so names ended are gives (inr cut) =
      inr (subst (λ (a : Option RunAnswer). IsCutOff plan a) (sym gives) cut)

  by_names : (names : Option NamingData) → AreNames text job names → (cells : List ℕ) →
      AreCellsOf names parts cells →
      Answering (TellsSights names job plan cells rounds) text job bytes answer →
      IsProgramsWatch parts rounds text job plan bytes answer
  by_names None is cells named shows = no_machines text job one is
  by_names (Some naming) is cells named shows =
      let seen = shows.ends in
      let its = programs_job text job naming is in
      let back : List ℕ = printed_answer shows.names shows.ended job.steps in record {
        naming = naming;
        is = its;
        cells = cells;
        named = named;
        sights = seen.sights;
        listed = seen.saw.listed;
        tell = λ k d lt. sight_of naming.program job (slice_index naming.numbers) its.goes _
            (seen.saw.tells k d lt);
        rises = seen.saw.rises;
        back = back;
        prints = shows.prints ∙ ap (λ (front : List ℕ). front ++ back) seen.text;
        ends = ends_so shows.names shows.ended shows.are_names shows.gives
            (ended_watch job plan cells rounds seen.ends.later seen.sights shows.ended
            seen.ends.at_it);
      }

pub watches_tell : WatchesTellThePrograms
watches_tell text job plan workers rounds parts bytes answer one comes =
    by_names text job plan rounds parts bytes answer one comes.names comes.are_names comes.cells
    comes.are_cells comes.shows
