use Rattle.std.proofs.Common.{ℕ, ◌<◌}
use Rattle.pram_machine.specs.Machine.{counter, halted}
use Rattle.pram_rows.proofs.fates.fates_of_running.Given as goal

abbrev pub invariant-loop-processor : goal.invariant-loop-processor
invariant-loop-processor l = (i : ℕ) → i < l.processor →
    counter l.job l.state i < halted l.job
