-- The record of what a run costs, by what was read.
use Rattle.std.proofs.Common.{◌≡◌, ◌∙◌, ℕ, List, Option, ap₂, refl}
use Rattle.pram_job.specs.Job.{JobData}
use Rattle.pram_cost.specs.Models.{IsWeakestModel}
use Rattle.pram_cost.specs.declared.pram.Pram.{Pram}
use Rattle.pram_commands.specs.Costs.{conflict_of}
use Rattle.naming.specs.Costed.{AreCosts}
use Rattle.naming.specs.Names.{AreNames, NamingData}
use Rattle.pram_commands.specs.Sweeps.{TellsRecord, end_word, fields_text, told_gone}
use Rattle.pardo_answers.specs.declared.line_costs.Costs.{Costs}
use Rattle.pardo_answers.specs.declared.line_costs.LineCost.{LineCost}

pub told_record : (job_text : List ℕ) (job : JobData) (names : Option NamingData) (costs : Costs)
    (pram : Pram) (bytes : List ℕ) → AreNames job_text job names → AreCosts names job costs →
    IsWeakestModel job costs.cost.steps pram →
    bytes ≡ fields_text costs.lines.items costs.cost pram
    (end_word costs.cost.procs (told_gone names) costs.cost.conflict) →
    TellsRecord job_text job bytes (conflict_of costs.cost)
told_record job_text job names costs pram bytes are_names are needs is = record {
  cost = costs.cost;
  pram = pram;
  names = names;
  costs = are.cost;
  needs = needs;
  are_names = are_names;
  prints = is ∙ ap₂ (λ (lines : List LineCost) (procs : ℕ). fields_text lines costs.cost pram
      (end_word procs (told_gone names) costs.cost.conflict)) are.lines
      are.cost.cost_is.procs_are;
  gives = refl;
}
