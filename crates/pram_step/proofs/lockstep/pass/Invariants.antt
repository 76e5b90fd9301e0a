use Rattle.std.proofs.Common.{◌-◌, length}
use Rattle.pram_step.specs.Inner.Passes.{IsPassed, IsUnderWay, bound}
use Rattle.pram_step.proofs.lockstep.pass.Given as goal

abbrev pub invariant-loop-turns : goal.invariant-loop-turns
invariant-loop-turns l = record {
  begun : IsUnderWay l.job l.running l.places l.asked l.turns;
  passed : IsPassed l.job l.initial.places (bound l.job l.running l.turns.taken) l.places l.asked
      l.turns.stores;
}

abbrev pub decreases-loop-turns : goal.decreases-loop-turns
decreases-loop-turns l = length l.running - l.turns.taken
