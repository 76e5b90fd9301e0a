use Rattle.std.proofs.Common.{◌≡◌, ◌+◌, ◌-◌, ◌≤◌}
use Rattle.std.specs.Prelude.{count_by}
use Rattle.std.specs.List.{range_with_len}
use Rattle.pardo_answers.specs.Traces.{takes_part}
use Rattle.pardo_answers.proofs.tracer.count_active.Given as goal

-- those so far and those to come are all that take part
abbrev pub invariant-loop-processor : goal.invariant-loop-processor
invariant-loop-processor l = record {
  so_far : l.count
      + count_by (takes_part l.program l.moment.job.now l.moment.state.now l.depth)
      (range_with_len l.processor (l.moment.job.now.procs - l.processor))
      ≡ count_by (takes_part l.program l.moment.job.now l.moment.state.now l.depth)
      (range_with_len 0 l.moment.job.now.procs);
  few : l.count ≤ l.processor;
}
