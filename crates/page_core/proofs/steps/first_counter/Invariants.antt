use Rattle.std.proofs.Common.{◌≡◌, ◌-◌}
use Rattle.std.specs.Prelude.{find}
use Rattle.std.specs.List.{range_with_len}
use Rattle.pram_step.specs.Running.{is_running}
use Rattle.page_core.proofs.steps.first_counter.Given as goal

-- none of those so far runs
abbrev pub invariant-loop-processor : goal.invariant-loop-processor
invariant-loop-processor l =
    find (is_running l.job l.state) (range_with_len l.processor (l.job.procs - l.processor))
    ≡ find (is_running l.job l.state) (range_with_len 0 l.job.procs)
