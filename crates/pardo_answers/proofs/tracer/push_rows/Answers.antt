use Rattle.std.proofs.Common.{◌+◌, refl, arith}
use Rattle.pardo_answers.proofs.Ranges.{range_told}
use Rattle.pardo_answers.specs.Traces.{processor_rows}
use Rattle.pardo_answers.proofs.tracer.push_rows.Goals as goal

pub loop-processor-preserved : goal.loop-processor-preserved
loop-processor-preserved c =
    range_told (processor_rows c.args.tracer.now.program.now c.args.tracer.now.numbers.now
    c.args.moment.now.job.now c.args.moment.now.state.now (c.args.moment.now.made + 1))
    c.loop-processor.text.items
    c.push_processor.new.text.items _ c.loop-processor.processor _ _ _ refl (omega arith)
    c.in_ok-push_processor.ensures
    c.loop-processor.invariant
