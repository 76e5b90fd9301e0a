-- What a run costs, when it ends.
use Rattle.std.proofs.Common.{◌≡◌, ℕ, Option, Some, None, refl, sym, subst}
use Rattle.pram_job.specs.Job.{JobData}
use Rattle.pram_step.specs.declared.answer.Fault.{Fault}
use Rattle.pram_machine.specs.Machine.{State}
use Rattle.pram_step.specs.declared.walks.Walked.{Walked}
use Rattle.pram_step.specs.declared.walks.Walked.TheVariants.{Through, Disputed}
use Rattle.pram_step.specs.Walks.{IsWalked, begun}
use Rattle.pram_cost.specs.declared.cost.Tally.{Tally}
use Rattle.pram_cost.specs.Costs.{IsCostOf, IsLength, IsCost}
use Rattle.pram_cost.specs.Tallies.{HasCounted}
use Rattle.pram_cost.proofs.Sized.{cost_same}

-- by what was counted on a job with some number of steps
pub counted_cost : (tally : Tally) (conflict : Option Fault) (job : JobData) (n steps : ℕ) →
    HasCounted (record job { steps = n }) steps tally → IsLength job steps conflict →
    IsCost job (record tally.cost { conflict = conflict })
counted_cost tally conflict job n steps counted length =
    let is = cost_same job n steps tally.cost counted.cost in
    record {
      length_is = subst (λ (k : ℕ). IsLength job k conflict) (sym is.steps_are) length;
      cost_is = subst (λ (k : ℕ). IsCostOf job k (record tally.cost { conflict = conflict }))
          (sym is.steps_are) (record {
            steps_are = is.steps_are;
            procs_are = is.procs_are;
            work_is = is.work_is;
            first_are = is.first_are;
          });
    }

-- where a walk came through all its steps, and where to a conflict
pub length_through : (job : JobData) (walked : Walked) (state : State) → walked ≡ Through state →
    IsWalked job job.steps walked → IsLength job (begun job.steps walked) None
length_through job walked state is walk =
    subst (λ w. IsLength job (begun job.steps w) None) (sym is)
    (refl, (subst (IsWalked job job.steps) is walk).reached)

pub length_disputed : (job : JobData) (walked : Walked) (fault : Fault) → walked ≡ Disputed fault →
    IsWalked job job.steps walked → IsLength job (begun job.steps walked) (Some fault)
length_disputed job walked fault is walk =
    let found = subst (IsWalked job job.steps) is walk in
    subst (λ w. IsLength job (begun job.steps w) (Some fault)) (sym is)
    (refl, record { first = found.0; within = found.1 })
