use Rattle.pram_step.specs.Inner.Marks.{AreStoredFrom}
use Rattle.pram_step.proofs.stores.write_stores.Given as goal

abbrev pub invariant-loop-k : goal.invariant-loop-k
invariant-loop-k l = AreStoredFrom l.asked l.k l.initial.places l.places
