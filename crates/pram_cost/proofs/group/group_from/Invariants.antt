use Rattle.std.proofs.Common.{◌≡◌, ℕ, ◌<◌, ◌≤◌, get_or}
use Rattle.pram_machine.specs.Machine.{counter}
use Rattle.pram_cost.proofs.group.group_from.Given as goal

abbrev pub invariant-loop-end : goal.invariant-loop-end
invariant-loop-end l = (k : ℕ) → l.from ≤ k → k < l.end →
    counter l.sight.job.now l.sight.state.now (get_or l.sight.running.now k 0) ≡ l.index
