use Rattle.std.proofs.Common.{ℕ, ◌<◌}
use Rattle.pram_machine.specs.Machine.{IsStopped}
use Rattle.pardo_job.proofs.run.first_running.Given as goal

abbrev pub invariant-loop-processor : goal.invariant-loop-processor
invariant-loop-processor l = (i : ℕ) → i < l.processor → IsStopped l.job l.state i
