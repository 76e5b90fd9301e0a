use Rattle.std.proofs.Common.{◌≤◌, take}
use Rattle.pram_step.specs.Running.{AreRunningBelow}
use Rattle.pram_step.proofs.running.list_running.Given as goal

abbrev pub invariant-loop-processor : goal.invariant-loop-processor
invariant-loop-processor l = record {
  few : l.count ≤ l.processor;
  found : AreRunningBelow l.job l.places l.processor (take l.count l.list);
}
