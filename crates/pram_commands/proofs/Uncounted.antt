-- What the run of a drafted program came to.
use Rattle.std.proofs.Common.{◌≡◌, ◌∙◌, ◌≤◌, ℕ, List, Option, Some, Result, Ok, Err, sym, ap}
use Rattle.std.proofs.Common.{refl, subst, inr}
use Rattle.std.specs.Prelude.{IfOk}
use Rattle.pram_job.specs.Job.{JobData}
use Rattle.pram_step.specs.declared.answer.RunAnswer.{RunAnswer}
use Rattle.pram_streams.specs.declared.print.PrintFault.{PrintFault}
use Rattle.stop_plan.specs.Plan.{PlanData}
use Rattle.pram_run.specs.Heard.{Ended}
use Rattle.command_data.specs.declared.line.Style.{Style}
use Rattle.pardo_job.specs.declared.compiler.Draft.{Draft}
use Rattle.pardo_job.specs.Refusals.{most_steps}
use Rattle.naming.specs.Drafted.{IsCounted}
use Rattle.naming.specs.Names.{AreNames, NamingData}
use Rattle.naming.specs.Writing.{Writing}
use Rattle.naming.specs.declared.texts.Spelled.{Spelled}
use Rattle.pram_commands.specs.Did.{tells}
use Rattle.pram_commands.specs.Inner.Drafted.{HasRunTo, HasToldDrafted, IsLongerRunOf, WasTold}
use Rattle.pram_commands.specs.Inner.Puts.{PutsAnswer, outcome}
use Rattle.pram_commands.specs.Threads.{SomeRunEndsIn, IsNewBoard}
use Rattle.pram_commands.specs.Why.{Explaining}
use Rattle.pram_commands.specs.declared.sources.Drafted.{Drafted}
use Rattle.pram_commands.specs.declared.sources.Refused.{Refused}
use Rattle.pram_commands.proofs.Hearing.{RunOf}
use Rattle.pram_commands.proofs.Told.{told_as}

-- how many steps are made at most is the same of a job with other steps
same_most : (job : JobData) (steps : ℕ) → most_steps (record job { steps = steps }) ≡ most_steps job
unfolding most_steps
same_most job steps = refl

-- a job that was counted, and needs no more steps than a longer one
pub is_run_of : (longer : JobData) (draft : Draft) (naming : NamingData) (spelled : Spelled) →
    longer ≡ record draft.job { steps = most_steps draft.job } →
    IsCounted spelled.text.items draft spelled.job naming → spelled.names ≡ Some naming →
    spelled.job.steps ≤ longer.steps → IsLongerRunOf spelled.text.items longer spelled
is_run_of longer draft naming spelled long counted named within =
    let steps : longer.steps ≡ most_steps draft.job = ap (λ (j : JobData). j.steps) long in record {
      program = counted.names.is_one;
      same_text = refl;
      names = subst (λ (n : Option NamingData). AreNames spelled.text.items spelled.job n)
          (sym named) counted.names;
      same = long ∙ ap (λ (n : ℕ). record draft.job { steps = n }) (sym steps)
          ∙ ap (λ (j : JobData). record j { steps = longer.steps }) (sym counted.job_is);
      most = steps ∙ sym (ap most_steps counted.job_is ∙ same_most draft.job spelled.job.steps);
      within = within;
      whole = counted.names.makes.whole;
    }

module _ (style : Style) (text : List ℕ) (longer : JobData) (plan : PlanData) (w : Writing)
    (answer : RunAnswer) (spelled : Spelled) (put : Result (Unit {0}) PrintFault)
    (told : WasTold style text longer w answer spelled put) (run : RunOf longer plan answer) where
  ends : SomeRunEndsIn text spelled.job plan answer
  ends = (
    run.later,
    record {
      most = longer.steps;
      enough = inr (record {
        program = told.run.program;
        most_is = told.run.most;
        within = told.run.within;
        whole = told.run.whole;
        ended = told.ends;
      });
      made = run.made;
      opened = subst (λ (j : JobData). IsNewBoard j plan run.made) told.run.same run.opened;
      ran = run.ran;
    },
  )

  pub puts_drafted : (result : Result RunAnswer PrintFault) → result ≡ outcome put (Ok answer) →
      PutsAnswer (Explaining style (SomeRunEndsIn text spelled.job plan) text spelled.job) ⊥ w tells
      result
  puts_drafted result is =
      told_as style (SomeRunEndsIn text spelled.job plan) text spelled.job w answer ends put
      told.answered result is

-- what the run came to, of the text's job
pub ran_drafted : (style : Style) (drafted : Drafted) (longer : JobData) (w : Writing)
    (ended : Ended) (told : Result (Spelled × Result (Unit {0}) PrintFault) Refused)
    (spelled : Spelled) (put : Result (Unit {0}) PrintFault) (result : Result RunAnswer PrintFault) →
    IfOk ended (RunOf longer drafted.plan) →
    HasToldDrafted style drafted.text.items longer w ended told → told ≡ Ok (spelled, put) →
    result ≡ outcome put ended → HasRunTo style drafted w spelled result
ran_drafted style drafted longer w (Ok answer) told spelled put result run h is out =
    let so = subst (HasToldDrafted style drafted.text.items longer w (Ok answer)) is h in record {
      names = so.run.names;
      puts = puts_drafted style drafted.text.items longer drafted.plan w answer spelled put so run
          result out;
    }
ran_drafted style drafted longer w (Err refused) told spelled put result run h is out =
    absurd (subst (HasToldDrafted style drafted.text.items longer w (Err refused)) is h)
