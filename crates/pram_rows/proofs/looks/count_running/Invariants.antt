use Rattle.std.proofs.Common.{◌≡◌}
use Rattle.std.specs.List.{count_by, range_with_len}
use Rattle.pram_step.specs.Runs.{state_after}
use Rattle.pram_step.specs.Running.{is_running}
use Rattle.pram_rows.proofs.looks.count_running.Given as goal

abbrev pub invariant-loop-processor : goal.invariant-loop-processor
invariant-loop-processor l =
    l.count ≡ count_by (is_running l.standing.job.now (state_after l.standing.job.now l.standing.steps))
    (range_with_len 0 l.processor)
