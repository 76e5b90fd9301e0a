use Rattle.std.proofs.Common.{◌≡◌, ◌+◌, ◌-◌, ◌++◌}
use Rattle.std.specs.List.{flat_map, range_with_len}
use Rattle.pardo_answers.specs.Traces.{processor_rows}
use Rattle.pardo_answers.proofs.tracer.push_rows.Given as goal

-- the rows so far and those to come are all rows
abbrev pub invariant-loop-processor : goal.invariant-loop-processor
invariant-loop-processor l =
    l.text.items ++ flat_map (processor_rows l.tracer.program.now l.tracer.numbers.now
    l.moment.job.now l.moment.state.now (l.moment.made + 1))
    (range_with_len l.processor (l.moment.job.now.procs - l.processor))
    ≡ l.fn.text.items ++ flat_map (processor_rows l.tracer.program.now l.tracer.numbers.now
    l.moment.job.now l.moment.state.now (l.moment.made + 1))
    (range_with_len 0 l.moment.job.now.procs)
