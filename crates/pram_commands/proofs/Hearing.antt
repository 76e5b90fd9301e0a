-- What printing an answer as it is heard came to.
use Rattle.std.proofs.Common.{◌≡◌, ◌∙◌, ◌⊎◌, ℕ, List, Result, Ok, Err, IsTrue, refl, sym, ap}
use Rattle.std.proofs.Common.{subst, inl, inr}
use Rattle.std.specs.Prelude.{IfOk, IsErrOf, OnOk}
use Rattle.pram_job.specs.Job.{JobData}
use Rattle.pram_step.specs.declared.answer.RunAnswer.{RunAnswer}
use Rattle.pram_streams.specs.declared.print.PrintFault.{PrintFault}
use Rattle.pram_streams.specs.declared.print.PrintFault.TheVariants.{Device, Memory}
use Rattle.stop_plan.specs.Plan.{PlanData}
use Rattle.pram_board.specs.Seats.{Desk, SeatData}
use Rattle.pram_run.specs.Heard.{Ended, HasRunBeside}
use Rattle.command_data.specs.declared.line.Style.{Style}
use Rattle.naming.specs.Writing.{Writing}
use Rattle.pram_commands.specs.Did.{tells}
use Rattle.pram_commands.specs.Inner.Hearing.{HasToldEnd}
use Rattle.pram_commands.specs.Inner.Puts.{PutsAnswer, outcome}
use Rattle.pram_commands.specs.Inner.Watching.{HasHeardAlone, Hearing, IsWatchedBy, CellReading}
use Rattle.pram_commands.specs.Threads.{SomeRunEndsIn, IsNewBoard}
use Rattle.pram_commands.specs.Why.{Explaining}
use Rattle.pram_run.proofs.Watches.{heard_unread, ran_unread}
use Rattle.pram_commands.proofs.Told.{told_as}

no_device : IsErrOf {T = RunAnswer} (Err Memory) Device → ⊥
no_device is = cc is

module _ (style : Style) (job_text : List ℕ) (job : JobData) (plan : PlanData) (w : Writing) where
  -- what a run comes to whose end was told
  pub puts_heard : (ended : Ended) (put : Result (Unit {0}) PrintFault)
      (result : Result RunAnswer PrintFault) → IfOk ended (SomeRunEndsIn job_text job plan) →
      HasToldEnd style job_text job w ended put →
      (w.Unwritten → IsTrue w.failed → ⊥) → result ≡ outcome put ended →
      PutsAnswer (Explaining style (SomeRunEndsIn job_text job plan) job_text job) ⊥ w tells result
  puts_heard (Ok answer) put result ends h well is =
      told_as style (SomeRunEndsIn job_text job plan) job_text job w answer ends put h result is
  puts_heard (Err refused) put result ends h well is =
      subst (λ (x : Result RunAnswer PrintFault).
      PutsAnswer (Explaining style (SomeRunEndsIn job_text job plan) job_text job) ⊥ w tells x)
      (sym (is ∙ ap (λ (x : Result (Unit {0}) PrintFault). outcome x (Err refused)) h.0)) (record {
        done = tt;
        wrote = inl h.1;
        failed = ((λ f. absurd (well h.1 f)), (λ e. absurd (no_device e)));
      })

-- a run of the job came to the answer
pub record RunOf (job : JobData) (plan : PlanData) (answer : RunAnswer) : Type 0 where
  pub made : Desk × SeatData
  pub opened : IsNewBoard job plan made
  pub later : SeatData
  pub ran : HasRunBeside made.0.task plan made.1 later answer

-- what a run came to whose reader read nothing, and what was heard
module _ {P H : Type 0} (Hears : Hearing P H) (first : P) (job : JobData) (plan : PlanData)
    (cells : List ℕ) (rounds : ℕ) (ended : Ended × H) where
  abbrev Nothing : CellReading P
  Nothing task listed count before after reader = (after ≡ before) × (reader ≡ first)

  never : (r : Ended) → OnOk r ⊥ → IfOk r (RunOf job plan)
  never (Ok answer) h = absurd h
  never (Err refused) h = tt

  ran_on : (made : Desk × SeatData) (later : SeatData) (r : Ended) → IsNewBoard job plan made →
      IfOk r (HasRunBeside made.0.task plan made.1 later) → IfOk r (RunOf job plan)
  ran_on made later (Ok answer) opened ran =
      record { made = made; opened = opened; later = later; ran = ran }
  ran_on made later (Err refused) opened ran = tt

  pub ran_unread_on : HasHeardAlone Hears first ended
      ⊎ IsWatchedBy Nothing Hears job plan cells rounds ended →
      IfOk ended.0 (RunOf job plan) × Hears first ended.0 ended.1
  ran_unread_on (inl alone) = (never ended.0 alone.0, alone.1)
  ran_unread_on (inr by) =
      let task = by.made.0.task in
      let later = by.on.later in (
        ran_on by.made later ended.0 by.opened
            (ran_unread task plan by.made.1 later first Hears ended.1 ended.0 (inr by.on.watched)),
        heard_unread task plan by.made.1 later first Hears ended.1 ended.0 (inr by.on.watched),
      )

-- such a run is one that ends in its answer
pub run_ends : (text : List ℕ) (job : JobData) (plan : PlanData) (ended : Ended) →
    IfOk ended (RunOf job plan) → IfOk ended (SomeRunEndsIn text job plan)
run_ends text job plan (Ok answer) run = (
  run.later,
  record {
    most = job.steps;
    enough = inl refl;
    made = run.made;
    opened = run.opened;
    ran = run.ran;
  },
)
run_ends text job plan (Err refused) run = tt
