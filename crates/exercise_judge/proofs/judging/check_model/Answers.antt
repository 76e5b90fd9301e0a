use Rattle.std.proofs.Common.{ℕ, Option, arith, inr, rules, subst}
use Rattle.std.specs.Prelude.{IfSome}
use Rattle.pram_job.specs.Job.{JobData}
use Rattle.pram_cost.specs.Beyond.{IsBeyond}
use Rattle.pram_cost.specs.Models.{AcceptsSteps}
use Rattle.pram_cost.specs.declared.beyond.Beyond.{Beyond}
use Rattle.pram_cost.specs.declared.pram.Pram.{Pram}
use Rattle.exercise_judge.proofs.judging.check_model.Goals as goal

-- what goes beyond a model the model does not accept
refuses : (pram : Pram) (job : JobData) (n : ℕ) (beyond : Beyond) → IsBeyond pram job n beyond →
    AcceptsSteps pram job n → ⊥
refuses pram job n beyond is accepts =
    let allowed = accepts is.first.before is.first.within beyond.sharing beyond.meeting.cell
    beyond.meeting.first beyond.meeting.second is.first.least.meet in
    absurd (omega (arith, allowed, is.refused))

pub returns-in_ok-model_needed-in-Some-beyond-clause-judged : goal.returns-in_ok-model_needed-in-Some-beyond-clause-judged
returns-in_ok-model_needed-in-Some-beyond-clause-judged c = λ job is certain accepts.
    let n = c.args.run.now.costs.cost.steps in
    refuses c.in-Some.allowed job n c.in-Some-beyond.beyond (c.in-Some-beyond.ensures job is)
    (subst (λ (m : Option Pram). IfSome m (λ allowed. AcceptsSteps allowed job n)) c.in-Some.is
    accepts)

pub returns-in_ok-model_needed-in-Some-beyond-clause-wrong : goal.returns-in_ok-model_needed-in-Some-beyond-clause-wrong
returns-in_ok-model_needed-in-Some-beyond-clause-wrong c = λ is.
    inr (
      c.in-Some.allowed,
      c.in-Some.is,
      c.in_ok-model_needed-in-Some-beyond.ensures is
          (c.in-Some-beyond.ensures c.args.run.now.job is),
    )
