use Rattle.std.proofs.Common.{ℕ, ◌<◌}
use Rattle.pram_machine.specs.Machine.{IsStopped}
use Rattle.pram_step.specs.Runs.{state_after}
use Rattle.pram_rows.proofs.looks.first_running.Given as goal

abbrev pub invariant-loop-processor : goal.invariant-loop-processor
invariant-loop-processor l = (j : ℕ) → j < l.processor →
    IsStopped l.standing.job.now (state_after l.standing.job.now l.standing.steps) j
