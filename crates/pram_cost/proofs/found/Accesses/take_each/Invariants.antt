use Rattle.pram_step.specs.Inner.Passes.{bound}
use Rattle.pram_cost.specs.Inner.Found.{AreFound}
use Rattle.pram_cost.proofs.found.Accesses.take_each.Given as goal

abbrev pub invariant-loop-taken : goal.invariant-loop-taken
invariant-loop-taken l = AreFound l.sight.job.now l.sight.state.now
    (bound l.sight.job.now l.sight.running.now l.taken) l.self
