use Rattle.std.proofs.Common.{ℕ, ◌<◌, get_or}
use Rattle.pram_machine.specs.Machine.{IsStopped}
use Rattle.pram_step.proofs.last.all_stopped.Given as goal

abbrev pub invariant-loop-processor : goal.invariant-loop-processor
invariant-loop-processor l = (j : ℕ) → j < l.processor-index →
    IsStopped l.sight.job.now l.sight.state.now (get_or l.sight.running.now j 0)
