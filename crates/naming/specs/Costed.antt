-- What was read where the cost is asked for.
use Rattle.std.specs.Prelude.{◌≡◌, Option}
use Rattle.pram_job.specs.Job.{JobData}
use Rattle.pram_cost.specs.Costs.{IsCost}
use Rattle.pardo_answers.specs.declared.line_costs.Costs.{Costs}
use Rattle.naming.specs.declared.texts.Spelled.{Spelled}
use Rattle.naming.specs.Costs.{named_line_costs, named_rounds}
use Rattle.naming.specs.Names.{AreNames, NamingData}

-- what the job's run costs, and what it tells of the counted lines of its program and of its loops
pub record AreCosts (names : Option NamingData) (job : JobData) (costs : Costs) : Type 0 where
  pub cost : IsCost job costs.cost
  pub lines : costs.lines.items ≡ named_line_costs names job
  pub rounds : costs.rounds ≡ named_rounds names job

-- a text, its job with what its answers are told by, and what the job's run costs
pub record IsCosted (spelled : Spelled) (costs : Costs) : Type 0 where
  pub names : AreNames spelled.text.items spelled.job spelled.names
  pub are_costs : AreCosts spelled.names spelled.job costs
