use Rattle.std.proofs.Common.{◌-◌, length}
use Rattle.pram_step.specs.Inner.Passes.{TurnsGoOn}
use Rattle.pram_step.proofs.lockstep.take.Given as goal

abbrev pub invariant-loop-turns : goal.invariant-loop-turns
invariant-loop-turns l = record {
  on : TurnsGoOn l.job l.running l.fn.places l.fn.asked l.fn.turns l.places l.asked l.turns;
}

abbrev pub decreases-loop-turns : goal.decreases-loop-turns
decreases-loop-turns l = length l.running - l.turns.taken
