-- What a command is, and what a call of it does.
use Rattle.std.specs.Prelude.{◌≡◌, ◌⊎◌, ◌++◌, ◌↔◌, ℕ, Bool, true, false, List, [], Option, None}
use Rattle.std.specs.Prelude.{Some, Result, ⊤}
use Rattle.std.specs.Prelude.{IfOk, IfErr, IfSome, MatchOption, IsErrOf, IsTrue}
use Rattle.std.specs.Io.KnownBytes.{Appends}
use Rattle.pram_job.specs.Job.{JobData}
use Rattle.pram_step.specs.declared.answer.RunAnswer.{RunAnswer}
use Rattle.pram_step.specs.declared.answer.RunAnswer.TheVariants.{Final, Conflict, Unfinished}
use Rattle.pram_streams.specs.Transfer.{AppendsBeginning, GivesMoreThan, GivesSome}
use Rattle.pram_streams.specs.declared.transfer.TheConstants.{MOST}
use Rattle.stop_plan.specs.Plan.{PlanData}
use Rattle.stop_plan.specs.declared.plan.PlanKind.{PlanKind}
use Rattle.pram_commands.specs.Inputs.{GivesFault, GivesSuch, GivesText}
use Rattle.pram_commands.specs.Inputs.{GivesSomeJob, IsOfJob, InputsRead, Taking}
use Rattle.naming.specs.Names.{AreNames, NamingData, printed_answer}
use Rattle.naming.specs.Writing.{Writing}
use Rattle.refusals.specs.declared.fault.CommandFault.{CommandFault}
use Rattle.refusals.specs.declared.fault.CommandFault.TheVariants.{Text, Program, Plan}
use Rattle.refusals.specs.declared.fault.CommandFault.TheVariants.{OutsideCell, JobDevice}
use Rattle.refusals.specs.declared.fault.CommandFault.TheVariants.{OutsidePlace, OutsideStep}
use Rattle.refusals.specs.declared.fault.CommandFault.TheVariants.{PlanDevice, OutDevice}
use Rattle.refusals.specs.declared.fault.CommandFault.TheVariants.{JobTooLarge, PlanTooLarge}
use Rattle.refusals.specs.declared.fault.CommandFault.TheVariants.{Memory}
use Rattle.refusals.specs.declared.refusal.TheConstants.{DONE, CONFLICT, UNFINISHED}

-- What a command is: the workers of the plan that it follows, if it follows one; which plan a text
-- is then, and which fault it has in which row; what the job has to have, and what a fault says
-- that the job of a text lacks; whether it prints in pieces, so that a beginning may stand printed
-- where memory runs out; and what it comes to: on this text, its job and this plan it prints these
-- bytes, and this is the answer, if it gives one.
pub record Command : Type 1 where
  pub workers : Option ℕ
  pub IsPlan : List ℕ → PlanData → Type 0
  pub HasPlanFault : List ℕ → ℕ → PlanKind → Type 0
  pub Has : JobData → Type 0
  pub Lacks : List ℕ → JobData → CommandFault → Type 0
  pub InPieces : Type 0
  pub Comes : List ℕ → JobData → PlanData → List ℕ → Option RunAnswer → Type 0

-- what follows the rows of a command: the printed answer, unless they are to stand alone
abbrev pub ending : Bool → Option NamingData → RunAnswer → ℕ → List ℕ
ending true names answer steps = []
ending false names answer steps = printed_answer names answer steps

-- What a command comes to that gives an answer: these bytes, and then the ending.
pub record Showing (alone : Bool) (Ends : RunAnswer → List ℕ → Type 0) (job_text : List ℕ)
    (job : JobData) (text : List ℕ) (answer : Option RunAnswer) : Type 0 where
  pub ended : RunAnswer
  pub front : List ℕ
  pub names : Option NamingData
  pub ends : Ends ended front
  pub are_names : AreNames job_text job names
  pub prints : text ≡ front ++ ending alone names ended job.steps
  pub gives : answer ≡ Some ended

abbrev pub Answering : (RunAnswer → List ℕ → Type 0) → List ℕ → JobData → List ℕ →
    Option RunAnswer → Type 0
Answering = Showing false

-- The sources gave the job, by its text, and where the command follows one, its plan.
pub record Given (command : Command) (reads : InputsRead) (job : JobData) (plan : PlanData)
    : Type 0 where
  pub job_text : List ℕ
  pub a_job : GivesText reads.job reads.job' job_text job
  pub a_plan : IfSome command.workers
      (λ workers. GivesSuch reads.plan reads.plan' (λ text. command.IsPlan text plan))

-- On what the sources gave, which has what the command asks for, the command prints this text, and
-- this is its answer.
pub record ComesTo (command : Command) (reads : InputsRead) (text : List ℕ)
    (answer : Option RunAnswer) : Type 0 where
  pub job : JobData
  pub plan : PlanData
  pub given : Given command reads job plan
  pub has : command.Has job
  pub comes : command.Comes given.job_text job plan text answer

-- The output took all that the command prints, and what is said holds of its answer.
pub record Prints (command : Command) (reads : InputsRead) (writes : Writing)
    (Is : Option RunAnswer → Type 0) : Type 0 where
  pub text : List ℕ
  pub answer : Option RunAnswer
  pub work : ComesTo command reads text answer
  pub takes : Appends writes.out writes.out' text
  pub is : Is answer

-- The output took a beginning of it.
pub record Begins (command : Command) (reads : InputsRead) (writes : Writing) : Type 0 where
  pub text : List ℕ
  pub answer : Option RunAnswer
  pub work : ComesTo command reads text answer
  pub takes : AppendsBeginning writes.out writes.out' text

-- what a call tells of its answer: the answer itself, that there is none, or its status
abbrev pub tells : RunAnswer → Option RunAnswer → Type 0
tells answer given = given ≡ Some answer

abbrev pub tells_none : Unit {0} → Option RunAnswer → Type 0
tells_none done given = given ≡ None

abbrev pub status_of : RunAnswer → ℕ
status_of (Final cells) = DONE
status_of (Conflict fault) = CONFLICT
status_of (Unfinished step) = UNFINISHED

abbrev pub ends_with : Option RunAnswer → ℕ
ends_with None = DONE
ends_with (Some answer) = status_of answer

abbrev pub tells_status : ℕ → Option RunAnswer → Type 0
tells_status status given = status ≡ ends_with given

-- The command follows a plan, the source of the job gave one, and this holds.
abbrev pub AfterJob : Option ℕ → InputsRead → Type 0 → Type 0
AfterJob None reads Holds = ⊥
AfterJob (Some workers) reads Holds = GivesSomeJob reads.job reads.job' × Holds

-- The sources gave a job, and this fault says what it lacks.
pub record GivesLacking (command : Command) (reads : InputsRead) (fault : CommandFault)
    : Type 0 where
  pub job : JobData
  pub plan : PlanData
  pub given : Given command reads job plan
  pub lacks : command.Lacks given.job_text job fault

-- What a fault says.
abbrev pub Explains : Command → InputsRead → Writing → CommandFault → Type 0
Explains command reads writes (Text line kind) = GivesFault reads.job reads.job' (Text line kind)
Explains command reads writes (Program refusal) = GivesFault reads.job reads.job' (Program refusal)
Explains command reads writes (Plan row kind) =
    AfterJob command.workers reads
    (GivesSuch reads.plan reads.plan' (λ text. command.HasPlanFault text row kind))
Explains command reads writes (OutsideCell cell) = GivesLacking command reads (OutsideCell cell)
Explains command reads writes (OutsidePlace at) = GivesLacking command reads (OutsidePlace at)
Explains command reads writes (OutsideStep step) = GivesLacking command reads (OutsideStep step)
Explains command reads writes JobDevice = IsTrue reads.job_failed
Explains command reads writes PlanDevice =
    AfterJob command.workers reads (IsTrue reads.plan_failed)
Explains command reads writes OutDevice = IsTrue writes.failed
Explains command reads writes JobTooLarge = GivesMoreThan MOST reads.job reads.job'
Explains command reads writes PlanTooLarge =
    AfterJob command.workers reads (GivesMoreThan MOST reads.plan reads.plan')
Explains command reads writes Memory = ⊤

-- What was written before a fault: where the output failed, a beginning; where memory ran out,
-- nothing, or a beginning if the command prints in pieces; else nothing.
abbrev pub Wrote : Command → InputsRead → Writing → CommandFault → Type 0
Wrote command reads writes OutDevice = Begins command reads writes
Wrote command reads writes Memory =
    writes.Unwritten ⊎ (command.InPieces × Begins command reads writes)
Wrote command reads writes _ = writes.Unwritten

-- The command was done; or this fault explains why it was not, and what was written. Where the job
-- is at fault, or the command follows no plan, nothing was read of the plan. Whether a device
-- failed is answered truly, and the sources stand after the bytes read so far.
pub record Did {A : Type 0} (command : Command) (taken : Taking) (writes : Writing)
    (Tells : A → Option RunAnswer → Type 0) (result : Result A CommandFault) : Type 0 where
  pub done : IfOk result (λ answer. Prints command taken.reads writes (Tells answer))
  pub explains : IfErr result (Explains command taken.reads writes)
  pub wrote : IfErr result (Wrote command taken.reads writes)
  pub job_first : IfErr result (λ fault. IsOfJob fault → taken.Unread)
  pub alone : MatchOption command.workers taken.Unread (λ _. ⊤)
  pub job_failed : IsTrue taken.reads.job_failed ↔ IsErrOf result JobDevice
  pub plan_failed : IsTrue taken.reads.plan_failed ↔ IsErrOf result PlanDevice
  pub out_failed : IsTrue writes.failed ↔ IsErrOf result OutDevice
  pub job_reads : GivesSome taken.reads.job taken.reads.job'
  pub plan_reads : GivesSome taken.reads.plan taken.reads.plan'
