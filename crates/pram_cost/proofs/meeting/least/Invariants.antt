use Rattle.std.proofs.Common.{◌+◌}
use Rattle.pram_cost.specs.Inner.Found.{of_kind}
use Rattle.pram_cost.specs.Inner.Seen.{HasSearched}
use Rattle.pram_cost.proofs.meeting.least.Given as goal

abbrev pub invariant-loop-k : goal.invariant-loop-k
invariant-loop-k l = HasSearched l.sharing l.moment.sight.job.now l.moment.sight.state.now (l.moment.sight.made + 1)
    (of_kind l.sharing l.moment.accesses.now) l.k l.marks l.found
