use Rattle.std.proofs.Common.{rules, ◌<◌, ◌∙◌, sym}
use Rattle.pram_step.specs.Running.{is_running}
use Rattle.page_core.proofs.Counting.{find_later}
use Rattle.page_core.proofs.steps.first_counter.Goals as goal

pub loop-processor-preserved : goal.loop-processor-preserved
loop-processor-preserved c =
    let job = c.args.job.now in
    let k = c.loop-processor.processor in
    let below : k < job.procs = search rules in
    find_later (is_running job c.args.state.now) k job.procs _ below
    (sym c.is_running.ensures ∙ c.if-is_running.false) c.loop-processor.invariant
