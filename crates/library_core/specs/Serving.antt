-- What a command over texts prints, and why it is not done.
use Rattle.std.specs.Prelude.{◌≡◌, ◌<◌, ℕ, List, length, Option, None, Some, IfSome, ⊤}
use Rattle.pram_job.specs.Job.{JobData}
use Rattle.pram_step.specs.declared.answer.RunAnswer.{RunAnswer}
use Rattle.pram_streams.specs.declared.transfer.TheConstants.{MOST}
use Rattle.stop_plan.specs.Plan.{PlanData}
use Rattle.refusals.specs.declared.fault.CommandFault.{CommandFault}
use Rattle.refusals.specs.declared.fault.CommandFault.TheVariants.{Text, Program, Plan}
use Rattle.refusals.specs.declared.fault.CommandFault.TheVariants.{OutsideStep, JobTooLarge}
use Rattle.refusals.specs.declared.fault.CommandFault.TheVariants.{PlanTooLarge, Memory}
use Rattle.refusals.specs.declared.fault.CommandFault.TheVariants.{JobDevice, PlanDevice, OutDevice}
use Rattle.refusals.specs.declared.fault.CommandFault.TheVariants.{OutsideCell, OutsidePlace}
use Rattle.pram_commands.specs.Did.{Command, ends_with}
use Rattle.naming.specs.BadTexts.{IsBad}
use Rattle.naming.specs.Names.{Means}
use Rattle.library_core.specs.Calls.{IsCall}
use Rattle.library_core.specs.declared.answer.Answer.{Answer}
use Rattle.library_core.specs.declared.fault.CallFault.{CallFault}
use Rattle.library_core.specs.declared.fault.CallFault.TheVariants as call
use Rattle.library_core.specs.declared.request.RequestFault.{RequestFault}

-- The text means a job, and the plan spells one where the command follows one; on these the command
-- prints these bytes, and the status is that of its answer.
pub record PrintsAll (command : Command) (text plan bytes : List ℕ) (status : ℕ) : Type 0 where
  pub job : JobData
  pub rows : PlanData
  pub answer : Option RunAnswer
  pub means : Means text job
  pub spells : IfSome command.workers (λ workers. command.IsPlan plan rows)
  pub has : command.Has job
  pub comes : command.Comes text job rows bytes answer
  pub is : status ≡ ends_with answer

-- The text means a job, the command follows a plan, and this holds.
abbrev pub AfterText : Option ℕ → (text : List ℕ) → Type 0 → Type 0
AfterText None text Holds = ⊥
AfterText (Some workers) text Holds = ((job : JobData) × Means text job) × Holds

-- The text means a job, and this fault says what it lacks.
abbrev pub MeansLacking : Command → (text : List ℕ) → CommandFault → Type 0
MeansLacking command text fault =
    (job : JobData) × Means text job × command.Lacks text job fault

-- The command is not done on this text and this plan, by this fault; memory may run out on any.
abbrev pub IsUndone : Command → (text plan : List ℕ) → CommandFault → Type 0
IsUndone command text plan (Text line kind) = IsBad text (Text line kind)
IsUndone command text plan (Program refusal) = IsBad text (Program refusal)
IsUndone command text plan (Plan row kind) =
    AfterText command.workers text (command.HasPlanFault plan row kind)
IsUndone command text plan (OutsideStep step) = MeansLacking command text (OutsideStep step)
IsUndone command text plan JobTooLarge = MOST < length text
IsUndone command text plan PlanTooLarge =
    AfterText command.workers text (MOST < length plan)
IsUndone command text plan Memory = ⊤
IsUndone command text plan _ = ⊥

-- a fault of a command whose sources and output lie in memory, and that names no cells
abbrev pub in_memory : CommandFault → CommandFault
in_memory JobDevice = Memory
in_memory PlanDevice = Memory
in_memory OutDevice = Memory
in_memory (OutsideCell cell) = Memory
in_memory (OutsidePlace at) = Memory
in_memory fault = fault

-- ---- a call of a command, where this is wrong with its request

abbrev pub GivesBytes : Command → Option RequestFault → (text plan : List ℕ) → List ℕ → ℕ → Type 0
GivesBytes command wrong text plan bytes status =
    (wrong ≡ None) × PrintsAll command text plan bytes status

abbrev pub IsWhy : Command → Option RequestFault → (text plan : List ℕ) → CallFault → Type 0
IsWhy command wrong text plan (call.Request fault) = wrong ≡ Some fault
IsWhy command wrong text plan (call.Command fault) =
    (wrong ≡ None) × IsUndone command text plan fault
IsWhy command wrong text plan _ = ⊥

-- What the call does: it shows what the command prints on this text and plan, or says why not.
abbrev pub ServesRequest : Command → Option RequestFault → (text plan : List ℕ)
    → (out out' : List ℕ) → (answer answer' : Answer) → ℕ → Type 0
ServesRequest command wrong text plan = IsCall (GivesBytes command wrong text plan)
    (IsWhy command wrong text plan)
