use Rattle.std.proofs.Common.{ℕ, ◌<◌}
use Rattle.pram_step.specs.Inner.Passes.{ChangesNothing}
use Rattle.pram_step.specs.Inner.Passes.{bound}
use Rattle.pram_step.proofs.running.are_idle.Given as goal

abbrev pub invariant-loop-processor : goal.invariant-loop-processor
invariant-loop-processor l = record {
  idle : (i : ℕ) → i < bound l.job l.running l.processor-index → ChangesNothing l.job l.places i;
}
