use Rattle.std.proofs.Common.{arith}
use Rattle.pram_rows.proofs.AllRun.{fates_all_run}
use Rattle.pram_rows.proofs.fates.fates_of_running.Goals as goal

pub returns : goal.returns
returns c = fates_all_run c.args.job.now c.args.job.now.steps c.args.state.now c.procs.result
    c.counter-2.result c.limits_hold.ensures c.requires
    (λ i low. c.loop-processor.invariant i (omega arith)) c.procs.ensures.value c.counter-2.ensures
