-- What printing came to makes what a command did, and that makes what a line did.
use Rattle.std.proofs.Common.{◌≡◌, ◌⊎◌, ℕ, Bool, true, false, List, [], ◌++◌, Option, None, Some}
use Rattle.std.proofs.Common.{Result, Ok, Err, IsTrue, MatchOption, refl, sym, ap, subst, inl, inr}
use Rattle.std.proofs.KnownBytes.{Appends-trans}
use Rattle.std.specs.Io.KnownBytes.{Appends}
use Rattle.std.specs.Prelude.{◌↔◌, IsErrOf, OnOk, ⊤}
use Rattle.std.specs.Result.{IsErr, IsErrAnd}
use Rattle.pram_job.specs.Job.{JobData}
use Rattle.pram_step.specs.declared.answer.RunAnswer.{RunAnswer}
use Rattle.pram_streams.proofs.Beginnings.{beginning-after, beginning-longer}
use Rattle.pram_streams.specs.Transfer.{AppendsBeginning, GivesSome}
use Rattle.pram_streams.specs.declared.print.PrintFault.{PrintFault}
use Rattle.pram_streams.specs.declared.print.PrintFault.TheVariants as print
use Rattle.stop_plan.specs.Plan.{PlanData}
use Rattle.pram_commands.specs.Did.{Command, Did, Given, Showing}
use Rattle.naming.specs.Writing.{Writing}
use Rattle.pram_commands.specs.Did.{ending, ends_with, tells, tells_none, tells_status}
use Rattle.pram_commands.specs.Inner.Puts.{PutBeginning, PutsAnswer, printed_as, status_result}
use Rattle.pram_commands.specs.Inputs.{Taking}
use Rattle.naming.specs.Names.{AreNames, NamingData}
use Rattle.refusals.specs.declared.fault.CommandFault.{CommandFault}
use Rattle.refusals.specs.declared.fault.CommandFault.TheVariants.{JobDevice, PlanDevice}
use Rattle.refusals.specs.declared.fault.CommandFault.TheVariants.{OutDevice, Memory}

pub ok_not_err : {T E : Type 0} (value : T) (e : E) → IsErrOf (Ok value) e → ⊥
ok_not_err value e is = cc is

pub err_same : {T E : Type 0} (e f : E) → IsErrOf {T = T} (Err e) f → e ≡ f
err_same e f is = cc is

-- an error of one type of results is one of another
pub err_as : {T U E : Type 0} (e f : E) → IsErrOf {T = T} (Err e) f → IsErrOf {T = U} (Err e) f
err_as e f is = ap (λ (x : _). Err x) (err_same e f is)

pub other_fault : {T : Type 0} → IsErrOf {T = T} (Err print.Memory) print.Device → ⊥
other_fault is = cc is

no_job : {T : Type 0} → IsErrOf {T = T} (Err OutDevice) JobDevice → ⊥
no_job is = cc is

no_plan : {T : Type 0} → IsErrOf {T = T} (Err OutDevice) PlanDevice → ⊥
no_plan is = cc is

no_device : {T : Type 0} (f : CommandFault) → (f ≡ Memory → ⊥) → IsErrOf {T = T} (Err Memory) f → ⊥
no_device f other is = other (sym (err_same Memory f is))

memory_job : JobDevice ≡ Memory → ⊥
memory_job is = cc is

memory_plan : PlanDevice ≡ Memory → ⊥
memory_plan is = cc is

memory_out : OutDevice ≡ Memory → ⊥
memory_out is = cc is

-- what `?` answers where it passes an error on
pub err_is : {A E : Type 0} (result : Result A E) (e : E) →
    IsErr result × IsErrAnd result (λ made. made ≡ e) → result ≡ Err e
err_is (Ok value) e is = cc is.0
err_is (Err made) e is = ap (λ (x : _). Err x) is.1

-- a source that has not failed, and one that nothing was read of
pub well : (failed : Bool) → failed ≡ false → IsTrue failed → ⊥
well true is holds = cc is
well false is holds = cc holds

pub gives_none : (source : Option (List ℕ)) → GivesSome source source
gives_none None = ([], tt)
gives_none (Some bytes) = ([], refl)

-- where a call that prints fails, what it printed is a beginning
pub put_failed : {A : Type 0} (Comes : List ℕ → Option RunAnswer → Type 0) (InPieces : Type 0)
    (w : Writing) (Tells : A → Option RunAnswer → Type 0) (result : Result A PrintFault)
    (e : PrintFault) → result ≡ Err e →
    PutBeginning Comes w → (e ≡ print.Memory → w.Unwritten ⊎ InPieces) →
    (IsTrue w.failed ↔ IsErrOf {T = Unit {0}} (Err e) print.Device) →
    PutsAnswer Comes InPieces w Tells result
put_failed {A} Comes InPieces w Tells result print.Device is begins memory failed =
    subst (λ (x : Result A PrintFault). PutsAnswer Comes InPieces w Tells x) (sym is)
    (record { done = tt; wrote = begins; failed = ((λ _. refl), (λ _. failed.1 refl)) })
put_failed {A} Comes InPieces w Tells result print.Memory is begins memory failed =
    subst (λ (x : Result A PrintFault). PutsAnswer Comes InPieces w Tells x) (sym is)
    (record {
      done = tt;
      wrote =
          elim (memory refl) [ inl unwritten ↦ inl unwritten | inr pieces ↦ inr (pieces, begins) ];
      failed = ((λ f. absurd (other_fault (failed.0 f))), (λ e. absurd (other_fault e)));
    })

-- where a call prints one text, and no answer is given
pub text_put : (Comes : List ℕ → Option RunAnswer → Type 0) (InPieces : Type 0) (w : Writing)
    (text : List ℕ) (result : Result (Unit {0}) PrintFault) → Comes text None →
    OnOk result (Appends w.out w.out' text) → AppendsBeginning w.out w.out' text →
    (IsErrOf result print.Memory → w.Unwritten) → (IsTrue w.failed ↔ IsErrOf result print.Device) →
    PutsAnswer Comes InPieces w tells_none result
text_put Comes InPieces w text (Ok done) comes takes begins memory failed = record {
  done = record { text = text; answer = None; comes = comes; takes = takes; is = refl };
  wrote = tt;
  failed = failed;
}
text_put Comes InPieces w text (Err fault) comes takes begins memory failed =
    put_failed Comes InPieces w tells_none (Err fault) fault refl
    (record { text = text; answer = None; comes = comes; takes = begins })
    (λ e. inl (memory (ap (λ (x : PrintFault). Err x) e))) failed

module _ {A : Type 0} (command : Command) (taken : Taking) (w : Writing)
    (Tells : A → Option RunAnswer → Type 0) where
  -- a command whose last act is to print, where its job and its plan were given
  pub printed_did : (job : JobData) (plan : PlanData) (given : Given command taken.reads job plan) →
      command.Has job → MatchOption command.workers taken.Unread (λ _. ⊤) → (IsTrue taken.reads.job_failed → ⊥) →
      (IsTrue taken.reads.plan_failed → ⊥) → GivesSome taken.reads.job taken.reads.job' →
      GivesSome taken.reads.plan taken.reads.plan' →
      (put : Result A PrintFault) →
      PutsAnswer (command.Comes given.job_text job plan) command.InPieces w Tells put →
      (result : Result A CommandFault) → result ≡ printed_as put →
      Did command taken w Tells result
  printed_did job plan given has alone
      job_well plan_well job_reads plan_reads (Ok told) puts result is =
      let all = puts.done in
      subst (λ (x : Result A CommandFault). Did command taken w Tells x) (sym is) (record {
        done = record {
          text = all.text;
          answer = all.answer;
          work = record { job = job; plan = plan; given = given; has = has; comes = all.comes };
          takes = all.takes;
          is = all.is;
        };
        explains = tt;
        wrote = tt;
        job_first = tt;
        alone = alone;
        job_failed = ((λ f. absurd (job_well f)), (λ e. absurd (ok_not_err told JobDevice e)));
        plan_failed = ((λ f. absurd (plan_well f)), (λ e. absurd (ok_not_err told PlanDevice e)));
        out_failed = (
          (λ f. absurd (ok_not_err told print.Device (puts.failed.0 f))),
          (λ e. absurd (ok_not_err told OutDevice e)),
        );
        job_reads = job_reads;
        plan_reads = plan_reads;
      })
  printed_did job plan given has alone job_well
      plan_well job_reads plan_reads (Err print.Device) puts result is =
      let some = puts.wrote in
      subst (λ (x : Result A CommandFault). Did command taken w Tells x) (sym is) (record {
        done = tt;
        explains = puts.failed.1 refl;
        wrote = record {
          text = some.text;
          answer = some.answer;
          work = record { job = job; plan = plan; given = given; has = has; comes = some.comes };
          takes = some.takes;
        };
        job_first = λ never. absurd never;
        alone = alone;
        job_failed = ((λ f. absurd (job_well f)), (λ e. absurd (no_job e)));
        plan_failed = ((λ f. absurd (plan_well f)), (λ e. absurd (no_plan e)));
        out_failed = ((λ _. refl), (λ _. puts.failed.1 refl));
        job_reads = job_reads;
        plan_reads = plan_reads;
      })
  printed_did job plan given has alone job_well plan_well
      job_reads plan_reads (Err print.Memory) puts result is =
      subst (λ (x : Result A CommandFault). Did command taken w Tells x) (sym is) (record {
        done = tt;
        explains = tt;
        wrote = elim puts.wrote [
          | inl unwritten ↦ inl unwritten
          | inr some ↦ inr (
            some.0,
            record {
              text = some.1.text;
              answer = some.1.answer;
              work = record { job = job; plan = plan; given = given; has = has; comes = some.1.comes };
              takes = some.1.takes;
            },
          )
        ];
        job_first = λ never. absurd never;
        alone = alone;
        job_failed = ((λ f. absurd (job_well f)), (λ e. absurd (no_device JobDevice memory_job e)));
        plan_failed =
            ((λ f. absurd (plan_well f)), (λ e. absurd (no_device PlanDevice memory_plan e)));
        out_failed = (
          (λ f. absurd (other_fault (puts.failed.0 f))),
          (λ e. absurd (no_device OutDevice memory_out e)),
        );
        job_reads = job_reads;
        plan_reads = plan_reads;
      })

module _ (command : Command) (taken : Taking) (w : Writing) where
  -- a line, by the answer of its command
  pub ended_did : (done : Result RunAnswer CommandFault) → Did command taken w tells done →
      (result : Result ℕ CommandFault) → result ≡ status_result done →
      Did command taken w tells_status result
  ended_did (Ok answer) did result is =
      let all = did.done in
      subst (λ (x : Result ℕ CommandFault). Did command taken w tells_status x) (sym is)
      (record {
        done = record {
          text = all.text;
          answer = all.answer;
          work = all.work;
          takes = all.takes;
          is = sym (ap ends_with all.is);
        };
        explains = tt;
        wrote = tt;
        job_first = tt;
        alone = did.alone;
        job_failed = (
          (λ f. absurd (ok_not_err answer JobDevice (did.job_failed.0 f))),
          (λ e. absurd (ok_not_err _ JobDevice e)),
        );
        plan_failed = (
          (λ f. absurd (ok_not_err answer PlanDevice (did.plan_failed.0 f))),
          (λ e. absurd (ok_not_err _ PlanDevice e)),
        );
        out_failed = (
          (λ f. absurd (ok_not_err answer OutDevice (did.out_failed.0 f))),
          (λ e. absurd (ok_not_err _ OutDevice e)),
        );
        job_reads = did.job_reads;
        plan_reads = did.plan_reads;
      })
  ended_did (Err fault) did result is =
      subst (λ (x : Result ℕ CommandFault). Did command taken w tells_status x) (sym is)
      (record {
        done = tt;
        explains = did.explains;
        wrote = did.wrote;
        job_first = did.job_first;
        alone = did.alone;
        job_failed = (
          (λ f. err_as fault JobDevice (did.job_failed.0 f)),
          (λ e. did.job_failed.1 (err_as fault JobDevice e)),
        );
        plan_failed = (
          (λ f. err_as fault PlanDevice (did.plan_failed.0 f)),
          (λ e. did.plan_failed.1 (err_as fault PlanDevice e)),
        );
        out_failed = (
          (λ f. err_as fault OutDevice (did.out_failed.0 f)),
          (λ e. did.out_failed.1 (err_as fault OutDevice e)),
        );
        job_reads = did.job_reads;
        plan_reads = did.plan_reads;
      })

-- what was printed before an ending, or the ending after it, or all of it
module _ (alone : Bool) (Ends : RunAnswer → List ℕ → Type 0) (job_text : List ℕ) (job : JobData)
    (w : Writing) (ended : RunAnswer) (front : List ℕ) (ends : Ends ended front)
    (names : Option NamingData) (are_names : AreNames job_text job names) where
  shows : Showing alone Ends job_text job (front ++ ending alone names ended job.steps) (Some ended)
  shows = record {
    ended = ended;
    front = front;
    names = names;
    ends = ends;
    are_names = are_names;
    prints = refl;
    gives = refl;
  }

  pub begins_front : AppendsBeginning w.out w.out' front →
      PutBeginning (Showing alone Ends job_text job) w
  begins_front takes = record {
    text = front ++ ending alone names ended job.steps;
    answer = Some ended;
    comes = shows;
    takes = beginning-longer _ _ front (ending alone names ended job.steps) takes;
  }

  pub begins_after : (steps : ℕ) (between : Option (List ℕ)) → steps ≡ job.steps →
      Appends w.out between front →
      AppendsBeginning between w.out' (ending alone names ended steps) →
      PutBeginning (Showing alone Ends job_text job) w
  begins_after steps between same put takes = record {
    text = front ++ ending alone names ended job.steps;
    answer = Some ended;
    comes = shows;
    takes = beginning-after _ _ _ front (ending alone names ended job.steps) put
        (subst (λ (n : ℕ). AppendsBeginning between w.out' (ending alone names ended n)) same takes);
  }

  pub put_both : (InPieces : Type 0) (steps : ℕ) (between : Option (List ℕ)) → steps ≡ job.steps →
      Appends w.out between front → Appends between w.out' (ending alone names ended steps) →
      (IsTrue w.failed ↔ IsErrOf {T = Unit {0}} (Ok tt) print.Device) →
      PutsAnswer (Showing alone Ends job_text job) InPieces w tells (Ok ended)
  put_both InPieces steps between same put takes failed = record {
    done = record {
      text = front ++ ending alone names ended job.steps;
      answer = Some ended;
      comes = shows;
      takes = Appends-trans _ _ _ front (ending alone names ended job.steps) put
          (subst (λ (n : ℕ). Appends between w.out' (ending alone names ended n)) same takes);
      is = refl;
    };
    wrote = tt;
    failed = (
      (λ f. absurd (ok_not_err tt print.Device (failed.0 f))),
      (λ e. absurd (ok_not_err ended print.Device e)),
    );
  }
