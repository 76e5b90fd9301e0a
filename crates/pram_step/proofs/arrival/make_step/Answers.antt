use Rattle.std.proofs.Common.{◌+◌, sym, subst}
use Rattle.pram_step.specs.Runs.{IsStateAfter}
use Rattle.pram_step.proofs.arrival.make_step.Goals as goal

pub returns-in-Ok : goal.returns-in-Ok
returns-in-Ok c = subst (IsStateAfter c.args.job.now (c.args.made + 1)) (sym c.in-Ok.ensures.next)
    (c.next_is_a_state.ensures c.args.job.now c.args.made c.args.state.now
    c.requires.after c.in-Ok.ensures.agrees)
