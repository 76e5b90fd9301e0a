use Rattle.lawful_walk.proofs.Ending.{conflict_met}
use Rattle.pram_world.proofs.outcome.replayed.Goals as goal

pub unreachable-requires : goal.unreachable-requires
unreachable-requires c = conflict_met c.args.job.now c.args.step c.steps.result c.requires
    c.steps.ensures.value c.in_ok-fault.field-0 c.in_ok-fault.ensures c.in-Reached.is
