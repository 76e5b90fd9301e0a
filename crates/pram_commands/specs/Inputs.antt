-- What reading a job and a plan says of their sources.
use Rattle.std.specs.Prelude.{◌≡◌, ◌↔◌, ℕ, Bool, false, List, [], Option, Result, ⊤}
use Rattle.std.specs.Prelude.{IfOk, IfErr, IsErrOf, IsTrue, nat_lt, ◌&&◌}
use Rattle.std.specs.Prelude.{if◌then◌else◌, None, Some}
use Rattle.pram_job.specs.Job.{JobData}
use Rattle.pram_step.specs.Runs.{IsAnswer}
use Rattle.pram_step.specs.declared.answer.RunAnswer.{RunAnswer}
use Rattle.pram_streams.specs.Transfer.{Gives, GivesMoreThan, GivesSome}
use Rattle.pram_streams.specs.declared.device.Sink as a_sink
use Rattle.pram_streams.specs.declared.device.Source as a_source
use Rattle.pram_streams.specs.declared.transfer.TheConstants.{MOST}
use Rattle.stop_plan.specs.Plan.{PlanData}
use Rattle.stop_plan.specs.Records.{FirstFault, SpellsPlan, records_of}
use Rattle.stop_plan.specs.declared.plan.PlanKind.{PlanKind}
use Rattle.refusals.specs.declared.fault.CommandFault.{CommandFault}
use Rattle.naming.specs.BadTexts.{IsBad}
use Rattle.naming.specs.Names.{AreNames, Means}
use Rattle.refusals.specs.declared.fault.CommandFault.TheVariants.{Text, Program, Plan}
use Rattle.refusals.specs.declared.fault.CommandFault.TheVariants.{JobDevice}
use Rattle.refusals.specs.declared.fault.CommandFault.TheVariants.{PlanDevice, JobTooLarge}
use Rattle.refusals.specs.declared.fault.CommandFault.TheVariants.{PlanTooLarge, Memory}
use Rattle.pram_commands.specs.declared.sources.Inputs.{Inputs}
use Rattle.pram_commands.specs.declared.sources.Sources.{Sources}

-- What a call did with its sources: the bytes that the job's and the plan's have before and after,
-- where they are known, and which of them have failed after it.
pub record InputsRead : Type 0 where
  pub job : Option (List ℕ)
  pub job' : Option (List ℕ)
  pub plan : Option (List ℕ)
  pub plan' : Option (List ℕ)
  pub job_failed : Bool
  pub plan_failed : Bool

abbrev pub reading : {J P : Type 0} → a_source.Ghosts J → a_source.Ghosts P
    → (before after : Sources J P) → InputsRead
reading of_job of_plan before after = record {
  job = of_job.remaining before.job;
  job' = of_job.remaining after.job;
  plan = of_plan.remaining before.plan;
  plan' = of_plan.remaining after.plan;
  job_failed = of_job.has_failed after.job;
  plan_failed = of_plan.has_failed after.plan;
}

-- What a call did with its sources, and that nothing was read of the plan.
pub record Taking : Type 1 where
  pub reads : InputsRead
  pub Unread : Type 0

abbrev pub taking : {J P : Type 0} → a_source.Ghosts J → a_source.Ghosts P
    → (before after : Sources J P) → Taking
taking of_job of_plan before after = record {
  reads = reading of_job of_plan before after;
  Unread = after.plan ≡ before.plan;
}

-- Neither source has failed, nor has the output; where no plan is named its source has no bytes.
pub record AreReady {J P O : Type 0} (of_job : a_source.Ghosts J) (of_plan : a_source.Ghosts P)
    (of_out : a_sink.Ghosts O) (sources : Sources J P) (out : O) : Type 0 where
  pub job : of_job.has_failed sources.job ≡ false
  pub plan : of_plan.has_failed sources.plan ≡ false
  pub unplanned : IsTrue sources.unplanned → of_plan.remaining sources.plan ≡ Some []
  pub output : of_out.has_failed out ≡ false

-- The source gave this text, whose job is this.
pub record GivesText (source source' : Option (List ℕ)) (text : List ℕ) (job : JobData)
    : Type 0 where
  pub gives : Gives source source' text
  pub means : Means text job

-- The source gave a text of this job.
abbrev pub GivesJob : Option (List ℕ) → Option (List ℕ) → JobData → Type 0
GivesJob source source' job = (text : List ℕ) × GivesText source source' text job

-- The source gave a text of which this holds.
pub record GivesSuch (source source' : Option (List ℕ)) (Is : List ℕ → Type 0) : Type 0 where
  pub text : List ℕ
  pub gives : Gives source source' text
  pub is : Is text

-- The source gave a text with this fault.
abbrev pub GivesFault : Option (List ℕ) → Option (List ℕ) → CommandFault → Type 0
GivesFault source source' fault = GivesSuch source source' (λ text. IsBad text fault)

-- The source gave a text of a job.
abbrev pub GivesSomeJob : Option (List ℕ) → Option (List ℕ) → Type 0
GivesSomeJob source source' = (job : JobData) × GivesJob source source' job

-- The source gave a text, and this is the answer of its job.
pub record GivesAnswer (source source' : Option (List ℕ)) (answer : RunAnswer) : Type 0 where
  pub job : JobData
  pub gives : GivesJob source source' job
  pub answers : IsAnswer job answer

-- The source gave a text whose records spell the plan.
abbrev pub GivesPlan : Option (List ℕ) → Option (List ℕ) → ℕ → PlanData → Type 0
GivesPlan source source' workers plan =
    GivesSuch source source' (λ text. SpellsPlan workers (records_of text) plan)

-- The source gave a text whose records have this first fault.
abbrev pub GivesPlanFault : Option (List ℕ) → Option (List ℕ) → ℕ → ℕ → PlanKind → Type 0
GivesPlanFault source source' workers row kind =
    GivesSuch source source' (λ text. FirstFault workers (records_of text) row kind)

-- The sources gave the job, by this text, and the plan.
pub record GivesBoth (reads : InputsRead) (workers : ℕ) (text : List ℕ) (job : JobData)
    (plan : PlanData) : Type 0 where
  pub gives_job : GivesText reads.job reads.job' text job
  pub gives_plan : GivesPlan reads.plan reads.plan' workers plan

-- What a fault says of the source of a plan. Those of a job and of an output are never answered.
abbrev pub ExplainsPlan : Option (List ℕ) → Option (List ℕ) → ℕ → CommandFault → Type 0
ExplainsPlan source source' workers (Plan row kind) =
    GivesPlanFault source source' workers row kind
ExplainsPlan source source' workers PlanTooLarge = GivesMoreThan MOST source source'
ExplainsPlan source source' workers PlanDevice = ⊤
ExplainsPlan source source' workers Memory = ⊤
ExplainsPlan source source' workers _ = ⊥

-- What a fault says of the source of a job. Those of a plan and of an output are never answered.
abbrev pub ExplainsJob : Option (List ℕ) → Option (List ℕ) → CommandFault → Type 0
ExplainsJob source source' (Text line kind) = GivesFault source source' (Text line kind)
ExplainsJob source source' (Program refusal) = GivesFault source source' (Program refusal)
ExplainsJob source source' JobTooLarge = GivesMoreThan MOST source source'
ExplainsJob source source' JobDevice = ⊤
ExplainsJob source source' Memory = ⊤
ExplainsJob source source' _ = ⊥

-- The job's source or its text is at fault.
abbrev pub IsOfJob : CommandFault → Type 0
IsOfJob (Text line kind) = ⊤
IsOfJob (Program refusal) = ⊤
IsOfJob JobDevice = ⊤
IsOfJob JobTooLarge = ⊤
IsOfJob _ = ⊥

-- What a fault says where a job is read, and then its plan.
abbrev pub ExplainsBoth : ℕ → InputsRead → CommandFault → Type 0
ExplainsBoth workers reads (Text line kind) = GivesFault reads.job reads.job' (Text line kind)
ExplainsBoth workers reads (Program refusal) = GivesFault reads.job reads.job' (Program refusal)
ExplainsBoth workers reads JobTooLarge = GivesMoreThan MOST reads.job reads.job'
ExplainsBoth workers reads JobDevice = ⊤
ExplainsBoth workers reads (Plan row kind) =
    GivesSomeJob reads.job reads.job' × GivesPlanFault reads.plan reads.plan' workers row kind
ExplainsBoth workers reads PlanTooLarge =
    GivesSomeJob reads.job reads.job' × GivesMoreThan MOST reads.plan reads.plan'
ExplainsBoth workers reads PlanDevice = GivesSomeJob reads.job reads.job'
ExplainsBoth workers reads Memory = ⊤
ExplainsBoth workers reads _ = ⊥

-- The sources gave a job, and then a plan for so many workers; or this fault says why not. Whether
-- a source failed is answered truly, and they stand after the bytes read so far.
pub record Took (workers : ℕ) (taken : Taking) (result : Result Inputs CommandFault)
    : Type 0 where
  pub both : IfOk result
      (λ inputs. GivesBoth taken.reads workers inputs.spelled.text.items inputs.spelled.job
      inputs.plan)
  pub names : IfOk result (λ inputs. AreNames inputs.spelled.text.items inputs.spelled.job
      inputs.spelled.names)
  pub explains : IfErr result (ExplainsBoth workers taken.reads)
  pub job_first : IfErr result (λ fault. IsOfJob fault → taken.Unread)
  pub job_failed : IsTrue taken.reads.job_failed ↔ IsErrOf result JobDevice
  pub plan_failed : IsTrue taken.reads.plan_failed ↔ IsErrOf result PlanDevice
  pub job_reads : GivesSome taken.reads.job taken.reads.job'
  pub plan_reads : GivesSome taken.reads.plan taken.reads.plan'

-- The step, if the job does not have it. Step 1 is never missed, also where the job has no step.
abbrev pub missing_step : JobData → ℕ → Option ℕ
missing_step job step = if nat_lt 1 step && nat_lt job.steps step then Some step else None
