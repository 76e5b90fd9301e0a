use Rattle.std.proofs.Common.{◌≡◌, take}
use Rattle.pram_step.specs.Runs.{state_after}
use Rattle.pram_world.proofs.outcome.cells.Given as goal

abbrev pub invariant-loop-cell : goal.invariant-loop-cell
invariant-loop-cell l = l.values.items ≡ take l.cell (state_after l.job l.job.steps)
