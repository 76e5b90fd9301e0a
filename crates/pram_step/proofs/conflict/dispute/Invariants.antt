use Rattle.std.proofs.Common.{◌≤◌}
use Rattle.pram_step.specs.Inner.Marks.{AreAsked, HasRoom}
use Rattle.pram_step.proofs.conflict.dispute.Given as goal

abbrev pub invariant-loop-processor : goal.invariant-loop-processor
invariant-loop-processor l = record {
  room : HasRoom l.job l.stores;
  few : l.count ≤ l.processor;
  asked : AreAsked l.job.cells l.requests l.processor l.stores.asked.items l.count;
}
