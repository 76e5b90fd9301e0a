-- What the command comes to that says what each counted line of a program costs.
use Rattle.std.specs.Prelude.{◌≡◌, ℕ, Bool, true, false, List, Option}
use Rattle.pram_job.specs.Job.{JobData}
use Rattle.pram_step.specs.declared.answer.RunAnswer.{RunAnswer}
use Rattle.pram_cost.specs.Costs.{IsCost}
use Rattle.pram_cost.specs.declared.cost.Cost.{Cost}
use Rattle.pram_commands.specs.Costs.{conflict_of, costing}
use Rattle.naming.specs.Costs.{named_line_costs}
use Rattle.pram_commands.specs.Did.{Command}
use Rattle.naming.specs.LineRecords.{records_text}
use Rattle.naming.specs.Names.{AreNames, NamingData}
use Rattle.pram_commands.specs.Plain.{on_job}

-- The text says what the run of the job costs in each counted line of its program; the job of a
-- text of the machine has none.
pub record TellsLines (job_text : List ℕ) (job : JobData) (text : List ℕ)
    (answer : Option RunAnswer) : Type 0 where
  pub cost : Cost
  pub names : Option NamingData
  pub costs : IsCost job cost
  pub are_names : AreNames job_text job names
  pub prints : text ≡ records_text job_text (named_line_costs names job)
  pub gives : answer ≡ conflict_of cost

-- it prints what the run costs, or what its lines do
abbrev pub costing_by : Bool → Command
costing_by false = costing
costing_by true = on_job TellsLines
