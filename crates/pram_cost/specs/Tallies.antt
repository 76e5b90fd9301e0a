-- What the steps counted so far cost.
use Rattle.std.specs.Prelude.{◌≡◌, ℕ, vec_len}
use Rattle.pram_job.specs.Job.{JobData}
use Rattle.pram_cost.specs.declared.cost.Tally.{Tally}
use Rattle.pram_cost.specs.Costs.{IsCostOf}

-- t steps were counted, and there is a mark for each cell
pub record HasCounted (job : JobData) (t : ℕ) (tally : Tally) : Type 0 where
  pub cost : IsCostOf job t tally.cost
  pub marks : vec_len tally.marks ≡ job.cells
