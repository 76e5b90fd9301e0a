-- What the command comes to that says what a run costs.
use Rattle.std.specs.Prelude.{◌≡◌, ◌++◌, ℕ, List, Option}
use Rattle.std.specs.Option.{option_map}
use Rattle.pram_job.specs.Job.{JobData}
use Rattle.pram_step.specs.declared.answer.RunAnswer.{RunAnswer}
use Rattle.pram_step.specs.declared.answer.RunAnswer.TheVariants.{Conflict}
use Rattle.pram_cost.specs.Costs.{IsCost}
use Rattle.pram_cost.specs.Models.{IsWeakestModel}
use Rattle.pram_cost.specs.Printed.{cost_text}
use Rattle.pram_cost.specs.declared.cost.Cost.{Cost}
use Rattle.pram_cost.specs.declared.pram.Pram.{Pram}
use Rattle.pram_commands.specs.Did.{Command}
use Rattle.naming.specs.Costs.{cost_words, named_line_costs, named_rounds, rounds_text}
use Rattle.naming.specs.Names.{AreNames, NamingData}
use Rattle.pram_commands.specs.Plain.{on_job}

-- the conflict of a run, as its answer; else it gives none
abbrev pub conflict_of : Cost → Option RunAnswer
conflict_of cost = option_map Conflict cost.conflict

abbrev pub tells_conflict : Cost → Option RunAnswer → Type 0
tells_conflict cost given = given ≡ conflict_of cost

-- The text says what the run of the job costs, and which model it needs, by the names of its text,
-- and last how many rounds its program has.
pub record TellsCost (job_text : List ℕ) (job : JobData) (text : List ℕ)
    (answer : Option RunAnswer) : Type 0 where
  pub cost : Cost
  pub pram : Pram
  pub names : Option NamingData
  pub costs : IsCost job cost
  pub needs : IsWeakestModel job cost.steps pram
  pub are_names : AreNames job_text job names
  pub prints : text ≡ cost_text (cost_words names (named_line_costs names job)) cost pram
      ++ rounds_text names (named_rounds names job)
  pub gives : answer ≡ conflict_of cost

-- it prints that text
abbrev pub costing : Command
costing = on_job TellsCost
