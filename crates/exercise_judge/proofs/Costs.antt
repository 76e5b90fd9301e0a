-- What the cost of a run that ends says of its steps.
use Rattle.std.proofs.Common.{◌≡◌, ℕ, List, Option, Some, None}
use Rattle.pram_job.specs.Job.{JobData}
use Rattle.pram_step.specs.declared.answer.Fault.{Fault}
use Rattle.pram_step.specs.declared.answer.RunAnswer.TheVariants.{Final}
use Rattle.pram_step.specs.Runs.{IsAnswer, IsReached}
use Rattle.pram_step.proofs.LawAnswer.{conflict_ends}
use Rattle.pram_cost.specs.declared.cost.Cost.{Cost}
use Rattle.pram_cost.specs.Costs.{IsCost, IsLength}

length_is : (job : JobData) (n : ℕ) (conflict : Option Fault) → IsLength job n conflict →
    IsReached job job.steps → n ≡ job.steps
length_is job n None length reached = length.0
length_is job n (Some fault) length reached =
    absurd (conflict_ends job fault job.steps length.1.first length.1.within reached)

-- a run that ends has all steps of its job
pub all_steps : (job : JobData) (cost : Cost) (cells : List ℕ) → IsCost job cost →
    IsAnswer job (Final cells) → cost.steps ≡ job.steps
all_steps job cost cells is ends =
    length_is job cost.steps cost.conflict is.length_is ends.1.reached
