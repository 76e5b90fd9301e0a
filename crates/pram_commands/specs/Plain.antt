-- What the commands come to that run a job on the plain machine, or only judge it.
use Rattle.std.specs.Prelude.{◌≡◌, ℕ, List, [], Option, None, ⊤}
use Rattle.pram_job.specs.Job.{JobData}
use Rattle.pram_step.specs.Runs.{IsAnswer}
use Rattle.pram_step.specs.declared.answer.RunAnswer.{RunAnswer}
use Rattle.pram_streams.specs.Printed.{summary}
use Rattle.stop_plan.specs.Plan.{PlanData}
use Rattle.command_data.specs.declared.line.Style.{Style}
use Rattle.pram_commands.specs.Did.{Command}
use Rattle.pram_commands.specs.Why.{Explaining}

-- what stands for a plan where a command follows none
abbrev pub no_plan : PlanData
no_plan = record { workers = 0; rows = [] }

-- follows no plan, and prints at once what it comes to on the job
abbrev pub on_job : (List ℕ → JobData → List ℕ → Option RunAnswer → Type 0) → Command
on_job Comes = record {
  workers = None;
  IsPlan = λ text plan. ⊥;
  HasPlanFault = λ text row kind. ⊥;
  Has = λ job. ⊤;
  Lacks = λ job_text job fault. ⊥;
  InPieces = ⊥;
  Comes = λ job_text job plan. Comes job_text job;
}

-- the text is the summary of the job, and no answer is given
abbrev pub TellsSummary : JobData → List ℕ → Option RunAnswer → Type 0
TellsSummary job text answer = (text ≡ summary job) × (answer ≡ None)

-- it prints the summary of the job
abbrev pub checking : Command
checking = on_job (λ job_text. TellsSummary)

-- it prints the answer of the job in a style
abbrev pub plainly : Style → Command
plainly style = on_job (λ job_text job. Explaining style (IsAnswer job) job_text job)
