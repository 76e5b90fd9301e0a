use Rattle.std.proofs.Common.{◌≡◌, ◌≤◌, ℕ, ◌<◌, get_or, vec_len, vec_items}
use Rattle.pram_run.specs.Inner.Obeying.{IsToObey}
use Rattle.pram_run.specs.Inner.Sharing.{plan_of}
use Rattle.pram_run.proofs.runner.start_to.Given as goal

abbrev pub invariant-loop-worker : goal.invariant-loop-worker
invariant-loop-worker g l = record {
  seat : l.seat ≡ l.fn.team.seat;
  len : vec_len l.threads ≡ l.worker;
  most : vec_len l.threads ≤ (plan_of l.shared).workers;
  promised : (k : ℕ) (d : _) → k < l.worker →
      IsToObey (plan_of l.shared).rows k l.fn.team.seat (get_or (vec_items l.threads) k d).promise;
}
