use Rattle.std.proofs.Common.{◌≤◌, length, subst}
use Rattle.pram_cost.proofs.Visiting.{visit_stopped}
use Rattle.pram_cost.proofs.access.visit_of.Goals as goal

pub returns-in-None : goal.returns-in-None
returns-in-None c =
    visit_stopped c.args.job.now c.args.state.now c.args.processor
    (subst (λ n. length c.args.job.now.code ≤ n) c.counter.ensures c.in-None.ensures)
