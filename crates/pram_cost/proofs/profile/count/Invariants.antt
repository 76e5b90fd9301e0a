use Rattle.std.proofs.Common.{◌≤◌, ◌-◌, length}
use Rattle.pram_step.specs.Inner.Passes.{bound}
use Rattle.pram_cost.specs.Inner.Tallied.{AreTallied}
use Rattle.pram_cost.proofs.profile.count.Given as goal

-- all processors before the next one that is listed were seen
abbrev pub invariant-loop-taken : goal.invariant-loop-taken
invariant-loop-taken l = record {
  inside : l.taken ≤ length l.sight.running.now;
  tallied : AreTallied l.sight (bound l.sight.job.now l.sight.running.now l.taken) l.rows;
}

abbrev pub decreases-loop-taken : goal.decreases-loop-taken
decreases-loop-taken l = length l.sight.running.now - l.taken
