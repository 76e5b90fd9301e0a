-- What the commands come to that run a job under a model of the PRAM.
use Rattle.std.specs.Prelude.{◌≡◌, ◌⊎◌, ℕ, List, Option, Some, None}
use Rattle.pram_job.specs.Job.{JobData}
use Rattle.pram_step.specs.declared.answer.Fault.{Fault}
use Rattle.pram_step.specs.declared.answer.RunAnswer.{RunAnswer}
use Rattle.pram_step.specs.declared.answer.RunAnswer.TheVariants.{Conflict}
use Rattle.pram_cost.specs.Beyond.{IsBeyond, beyond_line}
use Rattle.pram_cost.specs.Costs.{IsCost}
use Rattle.pram_cost.specs.Models.{AcceptsSteps}
use Rattle.pram_cost.specs.declared.beyond.Beyond.{Beyond}
use Rattle.pram_cost.specs.declared.cost.Cost.{Cost}
use Rattle.pram_cost.specs.declared.meeting.Meeting.{Meeting}
use Rattle.pram_cost.specs.declared.pram.Pram.{Pram}
use Rattle.naming.specs.Costs.{cost_words, named_line_costs}
use Rattle.pram_commands.specs.Did.{Command}
use Rattle.naming.specs.Names.{AreNames, NamingData}
use Rattle.pram_commands.specs.Plain.{no_plan, on_job}

-- The model accepts all steps of the run.
abbrev pub AcceptsRun : Pram → JobData → Type 0
AcceptsRun pram job = (cost : Cost) × IsCost job cost × AcceptsSteps pram job cost.steps

-- a meeting that a model does not accept, as a conflict
abbrev pub clash_at : Meeting → Fault
clash_at meeting = record {
  step = meeting.step;
  cell = meeting.cell;
  first = meeting.first;
  second = meeting.second;
}

-- The text says where the run first goes beyond the model, by the names of its text, and the answer
-- is a conflict there.
pub record TellsBeyond (pram : Pram) (job_text : List ℕ) (job : JobData) (text : List ℕ)
    (answer : Option RunAnswer) : Type 0 where
  pub cost : Cost
  pub beyond : Beyond
  pub names : Option NamingData
  pub costs : IsCost job cost
  pub is : IsBeyond pram job cost.steps beyond
  pub are_names : AreNames job_text job names
  pub prints : text ≡ beyond_line (cost_words names (named_line_costs names job)) pram beyond
  pub gives : answer ≡ Some (Conflict (clash_at beyond.meeting))

-- what the command comes to where the model accepts the run, and else where that goes beyond it
abbrev pub Judged : Pram → Command → List ℕ → JobData → List ℕ → Option RunAnswer → Type 0
Judged pram command job_text job text answer =
    (AcceptsRun pram job × command.Comes job_text job no_plan text answer)
    ⊎ TellsBeyond pram job_text job text answer

-- a command that follows no plan, under a model if there is one
abbrev pub under_model : Option Pram → Command → Command
under_model None command = command
under_model (Some pram) command = on_job (Judged pram command)
