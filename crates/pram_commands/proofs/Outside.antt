-- A command whose list names a cell that the job does not have.
use Rattle.std.proofs.Common.{◌≡◌, ℕ, List, Option, Result, Ok, Err, IsTrue, MatchOption}
use Rattle.std.proofs.Common.{sym, subst, inl, inr}
use Rattle.std.specs.Prelude.{⊤}
use Rattle.pram_job.specs.Job.{JobData}
use Rattle.pram_step.specs.declared.answer.RunAnswer.{RunAnswer}
use Rattle.pram_streams.specs.Transfer.{GivesSome}
use Rattle.pram_streams.specs.declared.print.PrintFault.{PrintFault}
use Rattle.pram_streams.specs.declared.print.PrintFault.TheVariants.{Device}
use Rattle.pram_streams.specs.declared.print.PrintFault.TheVariants as print
use Rattle.stop_plan.specs.Plan.{PlanData}
use Rattle.naming.specs.CellLists.{IsOutside}
use Rattle.pram_commands.specs.Did.{Command, Did, Explains, Given, Wrote}
use Rattle.naming.specs.Writing.{Writing}
use Rattle.pram_commands.specs.Inner.Puts.{PutBeginning, PutsAnswer}
use Rattle.pram_commands.specs.Inputs.{IsOfJob, Taking}
use Rattle.naming.specs.Names.{NamingData}
use Rattle.refusals.specs.declared.fault.CommandFault.{CommandFault}
use Rattle.refusals.specs.declared.fault.CommandFault.TheVariants as fault
use Rattle.pram_commands.proofs.Doing.{err_same}

-- it is no device's
record IsElse (found : CommandFault) : Type 0 where
  job : found ≡ fault.JobDevice → ⊥
  plan : found ≡ fault.PlanDevice → ⊥
  out : found ≡ fault.OutDevice → ⊥
  of_job : IsOfJob found → ⊥

module _ (names : Option NamingData) (job : JobData) (parts : List (List ℕ)) where
  is_else : (found : CommandFault) → IsOutside names job parts found → IsElse found
  is_else (fault.OutsideCell cell) is = record {
    job = λ e. cc e;
    plan = λ e. cc e;
    out = λ e. cc e;
    of_job = λ never. never;
  }
  is_else (fault.OutsidePlace at) is = record {
    job = λ e. cc e;
    plan = λ e. cc e;
    out = λ e. cc e;
    of_job = λ never. never;
  }
  is_else fault.Memory is = record {
    job = λ e. cc e;
    plan = λ e. cc e;
    out = λ e. cc e;
    of_job = λ never. never;
  }
  is_else _ is = absurd is

module _ {A : Type 0} (command : Command) (taken : Taking) (w : Writing)
    (Tells : A → Option RunAnswer → Type 0) (job : JobData) (plan : PlanData)
    (given : Given command taken.reads job plan) (names : Option NamingData)
    (parts : List (List ℕ)) (unwritten : w.Unwritten) where
  explain : (found : CommandFault) → IsOutside names job parts found →
      command.Lacks given.job_text job found → Explains command taken.reads w found
  explain (fault.OutsideCell cell) is lacks =
      record { job = job; plan = plan; given = given; lacks = lacks }
  explain (fault.OutsidePlace at) is lacks =
      record { job = job; plan = plan; given = given; lacks = lacks }
  explain fault.Memory is lacks = tt
  explain _ is lacks = absurd is

  wrote : (found : CommandFault) → IsOutside names job parts found →
      Wrote command taken.reads w found
  wrote (fault.OutsideCell cell) is = unwritten
  wrote (fault.OutsidePlace at) is = unwritten
  wrote fault.Memory is = inl unwritten
  wrote _ is = absurd is

  pub outside_did : MatchOption command.workers taken.Unread (λ _. ⊤) →
      (IsTrue taken.reads.job_failed → ⊥) → (IsTrue taken.reads.plan_failed → ⊥) →
      (IsTrue w.failed → ⊥) → GivesSome taken.reads.job taken.reads.job' →
      GivesSome taken.reads.plan taken.reads.plan' → (found : CommandFault) →
      IsOutside names job parts found → command.Lacks given.job_text job found →
      (result : Result A CommandFault) → result ≡ Err found → Did command taken w Tells result
  outside_did alone job_well plan_well out_well job_reads plan_reads found is lacks result same =
      let other = is_else names job parts found is in
      subst (λ (x : Result A CommandFault). Did command taken w Tells x) (sym same) (record {
        done = tt;
        explains = explain found is lacks;
        wrote = wrote found is;
        job_first = λ of_job. absurd (other.of_job of_job);
        alone = alone;
        job_failed =
            ((λ f. absurd (job_well f)), (λ e. absurd (other.job (err_same found _ e))));
        plan_failed =
            ((λ f. absurd (plan_well f)), (λ e. absurd (other.plan (err_same found _ e))));
        out_failed = ((λ f. absurd (out_well f)), (λ e. absurd (other.out (err_same found _ e))));
        job_reads = job_reads;
        plan_reads = plan_reads;
      })

-- what printing came to, said in other words
module _ {A : Type 0} (Comes Says : List ℕ → Option RunAnswer → Type 0) (InPieces : Type 0)
    (w : Writing) (Tells : A → Option RunAnswer → Type 0)
    (says : (text : List ℕ) (answer : Option RunAnswer) → Comes text answer → Says text answer)
  where
    begins_as : PutBeginning Comes w → PutBeginning Says w
    begins_as some = record {
      text = some.text;
      answer = some.answer;
      comes = says _ _ some.comes;
      takes = some.takes;
    }

    pub puts_as : (result : Result A PrintFault) → PutsAnswer Comes InPieces w Tells result →
        PutsAnswer Says InPieces w Tells result
    puts_as (Ok told) puts =
        let all = puts.done in
        record {
          done = record {
            text = all.text;
            answer = all.answer;
            comes = says _ _ all.comes;
            takes = all.takes;
            is = all.is;
          };
          wrote = tt;
          failed = puts.failed;
        }
    puts_as (Err Device) puts =
        record { done = tt; wrote = begins_as puts.wrote; failed = puts.failed }
    puts_as (Err print.Memory) puts = record {
      done = tt;
      wrote = elim puts.wrote [
        | inl unwritten ↦ inl unwritten
        | inr some ↦ inr (some.0, begins_as some.1)
      ];
      failed = puts.failed;
    }
