-- The status of a line: that of what was done, or of the refusal that was told.
use Rattle.std.proofs.Common.{Result, Ok, Err, IfOk, IfErr, IsTrue, ap, ◌≡◌, ◌≢◌, ◌⊎◌, ◌∙◌, ◌<◌, true, false}
use Rattle.std.proofs.Common.{Bool, List, ◌≤◌, ℕ, Option, Some, None, refl, sym, subst, inl, inr, arith}
use Rattle.std.specs.Prelude.{is_some}
use Rattle.std.specs.Option.{option_map}
use Rattle.pram_job.specs.Job.{JobData}
use Rattle.pram_step.specs.Runs.{IsAnswer}
use Rattle.pram_step.specs.declared.answer.Fault.{Fault}
use Rattle.pram_step.specs.declared.answer.RunAnswer.{RunAnswer}
use Rattle.pram_step.specs.declared.answer.RunAnswer.TheVariants as answer
use Rattle.pram_cost.specs.declared.cost.Cost.{Cost}
use Rattle.pram_cost.specs.declared.pram.Pram.{Pram}
use Rattle.stop_plan.specs.Plan.{PlanData}
use Rattle.pram_commands.specs.Costs.{conflict_of}
use Rattle.pram_commands.specs.Did.{Begins, Command, Did, Explains, Prints, Wrote}
use Rattle.naming.specs.Writing.{Writing}
use Rattle.pram_commands.specs.Did.{ends_with, tells_status}
use Rattle.refusals.specs.Faults.{fault_status}
use Rattle.pram_commands.specs.Inputs.{InputsRead, Taking}
use Rattle.pram_commands.specs.Line.{command_alone, command_of}
use Rattle.pram_commands.specs.LineRecords.{costing_by}
use Rattle.pram_commands.specs.Plain.{checking, no_plan, plainly}
use Rattle.pram_commands.specs.Served.{Served}
use Rattle.pram_commands.specs.Under.{under_model}
use Rattle.refusals.specs.declared.fault.CommandFault.{CommandFault}
use Rattle.refusals.specs.declared.fault.CommandFault.TheVariants.{Text, Program, Plan, OutsideCell}
use Rattle.refusals.specs.declared.fault.CommandFault.TheVariants.{OutsidePlace}
use Rattle.refusals.specs.declared.fault.CommandFault.TheVariants.{OutsideStep}
use Rattle.refusals.specs.declared.fault.CommandFault.TheVariants.{JobDevice, PlanDevice}
use Rattle.refusals.specs.declared.fault.CommandFault.TheVariants.{OutDevice, JobTooLarge}
use Rattle.refusals.specs.declared.fault.CommandFault.TheVariants.{PlanTooLarge, Memory}
use Rattle.command_data.specs.declared.line.Ask.{Ask}
use Rattle.command_data.specs.declared.line.Ask.TheVariants as ask
use Rattle.command_data.specs.declared.line.AskAlone.{AskAlone}
use Rattle.command_data.specs.declared.line.AskAlone.TheVariants as alone
use Rattle.command_data.specs.declared.line.AskOnThreads.TheVariants as on_threads
use Rattle.command_data.specs.declared.line.Line.{Line}
use Rattle.command_data.specs.declared.line.Style.{Style}
use Rattle.pram_commands.proofs.Doing.{err_same, ok_not_err}

-- what was told with another status than 5 is no lack of memory
told : (result status n : ℕ) → (result ≡ 5) ⊎ (result ≡ status) → n < 5 → result ≡ n → status ≡ n
told result status n (inl memory) less is = absurd (omega (arith, memory, less, is))
told result status n (inr same) less is = sym same ∙ is

-- a status of a fault, from 2 to 5, is none of an answer
record IsFaultStatus (n : ℕ) : Type 0 where
  least : 2 ≤ n
  most : n ≤ 5
  other : n ≢ 3

fault-status : (f : CommandFault) → IsFaultStatus (fault_status f)
fault-status (Text line kind) =
    record { least = omega arith; most = omega arith; other = λ e. omega (arith, e) }
fault-status (Program refusal) =
    record { least = omega arith; most = omega arith; other = λ e. omega (arith, e) }
fault-status (Plan row kind) =
    record { least = omega arith; most = omega arith; other = λ e. omega (arith, e) }
fault-status (OutsideCell cell) =
    record { least = omega arith; most = omega arith; other = λ e. omega (arith, e) }
fault-status (OutsidePlace at) =
    record { least = omega arith; most = omega arith; other = λ e. omega (arith, e) }
fault-status (OutsideStep step) =
    record { least = omega arith; most = omega arith; other = λ e. omega (arith, e) }
fault-status JobDevice =
    record { least = omega arith; most = omega arith; other = λ e. omega (arith, e) }
fault-status PlanDevice =
    record { least = omega arith; most = omega arith; other = λ e. omega (arith, e) }
fault-status OutDevice =
    record { least = omega arith; most = omega arith; other = λ e. omega (arith, e) }
fault-status JobTooLarge =
    record { least = omega arith; most = omega arith; other = λ e. omega (arith, e) }
fault-status PlanTooLarge =
    record { least = omega arith; most = omega arith; other = λ e. omega (arith, e) }
fault-status Memory =
    record { least = omega arith; most = omega arith; other = λ e. omega (arith, e) }

-- what was told has one, too
told-status : (f : CommandFault) (status : ℕ) →
    (status ≡ 5) ⊎ (status ≡ fault_status f) → IsFaultStatus status
told-status f status (inl memory) =
    record { least = omega arith; most = omega arith; other = λ e. omega (arith, e, memory) }
told-status f status (inr same) = subst IsFaultStatus (sym same) (fault-status f)

-- where a device failed, the status says so
told-failed : (f : CommandFault) (status : ℕ) → (status ≡ 5) ⊎ (status ≡ fault_status f) →
    fault_status f ≡ 4 → 4 ≤ status
told-failed f status (inl memory) four = omega arith
told-failed f status (inr same) four = omega arith

-- a status of an answer
record IsAnswerStatus (n : ℕ) : Type 0 where
  most : n ≤ 3
  other : n ≢ 2

answer-status : (given : Option RunAnswer) → IsAnswerStatus (ends_with given)
answer-status None = record { most = omega arith; other = λ e. omega (arith, e) }
answer-status (Some (answer.Final cells)) =
    record { most = omega arith; other = λ e. omega (arith, e) }
answer-status (Some (answer.Conflict fault)) =
    record { most = omega arith; other = λ e. omega (arith, e) }
answer-status (Some (answer.Unfinished step)) =
    record { most = omega arith; other = λ e. omega (arith, e) }

-- where a job on the plain machine has an answer, it is done
ended-plain : (job : JobData) (ended : RunAnswer) (given : Option RunAnswer) → IsAnswer job ended →
    given ≡ Some ended → ends_with given ≡ 3 → ⊥
ended-plain job (answer.Final cells) given is same three =
    let status = ap ends_with same in omega (arith, three, status)
ended-plain job (answer.Conflict fault) given is same three =
    let status = ap ends_with same in omega (arith, three, status)
ended-plain job (answer.Unfinished step) given is same three = is

-- what a run costs is no answer, and its conflict is none that is unfinished
ended-cost : (cost : Cost) (given : Option RunAnswer) → given ≡ conflict_of cost →
    ends_with given ≡ 3 → ⊥
ended-cost cost given is = ended cost.conflict is
  where
    ended : (fault : Option Fault) → given ≡ option_map answer.Conflict fault →
        ends_with given ≡ 3 → ⊥
    ended None same three = let status = ap ends_with same in omega (arith, three, status)
    ended (Some fault) same three = let status = ap ends_with same in omega (arith, three, status)

-- a command that follows no plan does not end so
abbrev EndsAlone : Command → Type 0
EndsAlone command = (job_text : List ℕ) (job : JobData) (plan : PlanData) (text : List ℕ)
    (given : Option RunAnswer) → command.Comes job_text job plan text given →
    ends_with given ≡ 3 → ⊥

ends_summary : EndsAlone checking
ends_summary job_text job plan text given comes three =
    let none = ap ends_with comes.1 in absurd (omega (arith, three, none))

ends_plain : (style : Style) → EndsAlone (plainly style)
ends_plain style job_text job plan text given comes three =
    ended-plain job comes.ended given comes.ends comes.gives three

ends_cost : (lines : Bool) → EndsAlone (costing_by lines)
ends_cost false job_text job plan text given comes three =
    ended-cost comes.cost given comes.gives three
ends_cost true job_text job plan text given comes three =
    ended-cost comes.cost given comes.gives three

-- nor does it under a model
ends_under : (model : Option Pram) (command : Command) → EndsAlone command →
    EndsAlone (under_model model command)
ends_under None command ends job_text job plan text given comes three =
    ends job_text job plan text given comes three
ends_under (Some pram) command ends job_text job plan text given (inl both) three =
    ends job_text job no_plan text given both.1 three
ends_under (Some pram) command ends job_text job plan text given (inr beyond) three =
    let status = ap ends_with beyond.gives in omega (arith, three, status)

-- what a fault wrote with the status of a refused text, and with another
wrote-none : (command : Command) (r : InputsRead) (w : Writing) (fault : CommandFault) →
    fault_status fault ≡ 2 → Wrote command r w fault → w.Unwritten
wrote-none command r w OutDevice two wrote = absurd (omega (arith, two))
wrote-none command r w Memory two wrote = absurd (omega (arith, two))
wrote-none command r w (Text number kind) two wrote = wrote
wrote-none command r w (Program refusal) two wrote = wrote
wrote-none command r w (Plan row kind) two wrote = wrote
wrote-none command r w (OutsideCell cell) two wrote = wrote
wrote-none command r w (OutsidePlace at) two wrote = wrote
wrote-none command r w (OutsideStep step) two wrote = wrote
wrote-none command r w JobDevice two wrote = wrote
wrote-none command r w PlanDevice two wrote = wrote
wrote-none command r w JobTooLarge two wrote = wrote
wrote-none command r w PlanTooLarge two wrote = wrote

wrote-some : (command : Command) (r : InputsRead) (w : Writing) (status : ℕ)
    (fault : CommandFault) →
    (status ≡ 5) ⊎ (status ≡ fault_status fault) → Explains command r w fault →
    Wrote command r w fault → w.Unwritten
    ⊎ ((IsTrue w.failed ⊎ ((status ≡ 5) × command.InPieces)) × Begins command r w)
wrote-some command r w status OutDevice is explains wrote = inr (inl explains, wrote)
wrote-some command r w status Memory is explains wrote = elim wrote [
  | inl none ↦ inl none
  | inr some ↦ inr (inr (elim is [ inl five ↦ five | inr same ↦ same ], some.0), some.1)
]
wrote-some command r w status (Text number kind) is explains wrote = inl wrote
wrote-some command r w status (Program refusal) is explains wrote = inl wrote
wrote-some command r w status (Plan row kind) is explains wrote = inl wrote
wrote-some command r w status (OutsideCell cell) is explains wrote = inl wrote
wrote-some command r w status (OutsidePlace at) is explains wrote = inl wrote
wrote-some command r w status (OutsideStep step) is explains wrote = inl wrote
wrote-some command r w status JobDevice is explains wrote = inl wrote
wrote-some command r w status PlanDevice is explains wrote = inl wrote
wrote-some command r w status JobTooLarge is explains wrote = inl wrote
wrote-some command r w status PlanTooLarge is explains wrote = inl wrote

module _ (taken : Taking) (w : Writing) where
  -- a command that follows no plan ends
  stops_alone : (ask : AskAlone) (status : ℕ) →
      Prints (command_alone ask) taken.reads w (tells_status status) → status ≡ 3 →
      IsTrue (is_some (command_alone ask).workers)
  stops_alone (alone.Check model) status prints three =
      absurd (ends_under model checking ends_summary _ _ _ _ _ prints.work.comes
      (sym prints.is ∙ three))
  stops_alone alone.Compile status prints three =
      let none = ap ends_with prints.work.comes.gives in absurd (omega (arith, prints.is, three, none))
  stops_alone (alone.Plain style model) status prints three =
      absurd (ends_under model (plainly style) (ends_plain style) _ _ _ _ _ prints.work.comes
      (sym prints.is ∙ three))
  stops_alone (alone.Cost lines model) status prints three =
      absurd (ends_under model (costing_by lines) (ends_cost lines) _ _ _ _ _ prints.work.comes
      (sym prints.is ∙ three))
  stops_alone alone.Sweep status prints three =
      let comes = prints.work.comes in
      absurd (ended-cost comes.cost prints.answer comes.gives (sym prints.is ∙ three))
  stops_alone (alone.Steps from to rows_alone) status prints three =
      let comes = prints.work.comes in
      absurd (ended-plain prints.work.job comes.ended prints.answer comes.ends.answers
      comes.gives (sym prints.is ∙ three))
  stops_alone (alone.Trace rows_alone) status prints three =
      let comes = prints.work.comes in
      absurd (ended-plain prints.work.job comes.ended prints.answer comes.ends.answers
      comes.gives (sym prints.is ∙ three))
  stops_alone (alone.Replay workers rows_alone) status prints three = refl

  stops : (ask : Ask) (status : ℕ) →
      Prints (command_of ask) taken.reads w (tells_status status) → status ≡ 3 →
      IsTrue (is_some (command_of ask).workers)
  stops (ask.Alone it) status prints three = stops_alone it status prints three
  stops (ask.OnThreads (on_threads.Run run)) status prints three = refl
  stops (ask.OnThreads (on_threads.Watch watch)) status prints three = refl

  module _ (line : Line) where
    -- a line that was done
    served-done : (status : ℕ) →
        Did (command_of line.ask) taken w tells_status (Ok status) → Served line taken.reads w status
    served-done status did =
        let prints = did.done in
        let ends = subst IsAnswerStatus (sym prints.is) (answer-status prints.answer) in
        record {
          done = λ _. prints;
          most = let most = ends.most in omega (arith, most);
          stops = stops line.ask status prints;
          refused = λ two. absurd (ends.other two);
          failed = λ four. let most = ends.most in absurd (omega (arith, most, four));
          job = λ failed. absurd (ok_not_err status JobDevice (did.job_failed.0 failed));
          plan = λ failed. absurd (ok_not_err status PlanDevice (did.plan_failed.0 failed));
          out = λ failed. absurd (ok_not_err status OutDevice (did.out_failed.0 failed));
          begins = λ four. let most = ends.most in absurd (omega (arith, most, four));
          job_reads = did.job_reads;
          plan_reads = did.plan_reads;
        }

    -- one that was not
    served-fault : (fault : CommandFault) (status : ℕ) →
        Did {A = ℕ} (command_of line.ask) taken w tells_status (Err fault) →
        (status ≡ 5) ⊎ (status ≡ fault_status fault) → Served line taken.reads w status
    served-fault fault status did is =
        let low = told-status fault status is in
        record {
          done = λ ends. elim ends [
            | inl less ↦ absurd (omega (arith, less, low.least))
            | inr three ↦ absurd (low.other three)
          ];
          most = low.most;
          stops = λ three. absurd (low.other three);
          refused = λ two. let same = told status (fault_status fault) 2 is (omega arith) two in (
            (fault, same, did.explains),
            wrote-none (command_of line.ask) taken.reads w fault same did.wrote,
          );
          failed = λ four.
              (fault, told status (fault_status fault) 4 is (omega arith) four, did.explains);
          job = λ failed. told-failed fault status is
              (ap fault_status (err_same fault JobDevice (did.job_failed.0 failed)));
          plan = λ failed. told-failed fault status is
              (ap fault_status (err_same fault PlanDevice (did.plan_failed.0 failed)));
          out = λ failed. told-failed fault status is
              (ap fault_status (err_same fault OutDevice (did.out_failed.0 failed)));
          begins = λ _.
              wrote-some (command_of line.ask) taken.reads w status fault is did.explains did.wrote;
          job_reads = did.job_reads;
          plan_reads = did.plan_reads;
        }

    pub served : (done : Result ℕ CommandFault) (status : ℕ) →
        Did (command_of line.ask) taken w tells_status done → IfOk done (λ s. status ≡ s) →
        IfErr done (λ fault. (status ≡ 5) ⊎ (status ≡ fault_status fault)) →
        Served line taken.reads w status
    served (Ok s) status did same is =
        subst (λ (n : ℕ). Served line taken.reads w n) (sym same) (served-done s did)
    served (Err fault) status did same is = served-fault fault status did is

-- What was done is of the command of a line that asks for it.
pub served_as : (taken : Taking) (w : Writing) (line : Line) (asked : Ask) → line.ask ≡ asked →
    (done : Result ℕ CommandFault) (status : ℕ) →
    Did (command_of asked) taken w tells_status done → IfOk done (λ s. status ≡ s) →
    IfErr done (λ fault. (status ≡ 5) ⊎ (status ≡ fault_status fault)) →
    Served line taken.reads w status
served_as taken w line asked same done status did =
    served taken w line done status
    (subst (λ (a : Ask). Did (command_of a) taken w tells_status done) (sym same) did)
