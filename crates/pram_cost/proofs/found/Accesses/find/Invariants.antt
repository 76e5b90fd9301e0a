use Rattle.std.proofs.Common.{◌≤◌, ◌-◌, length}
use Rattle.pram_step.specs.Inner.Passes.{bound}
use Rattle.pram_cost.specs.Inner.Found.{AreFound}
use Rattle.pram_cost.proofs.found.Accesses.find.Given as goal

-- all processors before the next one that is listed were looked at
abbrev pub invariant-loop-taken : goal.invariant-loop-taken
invariant-loop-taken l = record {
  inside : l.taken ≤ length l.sight.running.now;
  found : AreFound l.sight.job.now l.sight.state.now
      (bound l.sight.job.now l.sight.running.now l.taken) l.self;
}

abbrev pub decreases-loop-taken : goal.decreases-loop-taken
decreases-loop-taken l = length l.sight.running.now - l.taken
