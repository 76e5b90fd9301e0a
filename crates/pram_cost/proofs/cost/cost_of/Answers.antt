use Rattle.std.proofs.Common.{subst}
use Rattle.pram_step.specs.Walks.{IsWalked, begun}
use Rattle.pram_cost.specs.Tallies.{HasCounted}
use Rattle.pram_cost.proofs.cost.cost_of.Goals as goal

pub returns : goal.returns
returns c =
    let job = c.args.job.now in
    let walked = c.in_ok-walked.walked in
    let tally = c.walk.new.observer in
    let all = c.steps.ensures.value in
    c.into_cost.ensures job job.steps (begun job.steps walked)
    (subst (λ n. HasCounted job (begun n walked) tally) all c.in_ok-walked.ensures.seen)
    (c.conflict_of.ensures job
    (subst (λ n. IsWalked job n walked) all c.in_ok-walked.ensures.walked))
