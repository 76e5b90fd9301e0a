use Rattle.std.proofs.Common.{◌≡◌, ◌+◌, ◌++◌, ◌<◌, ℕ, length, vec_items, vec_len}
use Rattle.std.specs.Vec.Iter.{into_iter_items, into_iter_len}
use Rattle.pram_run.specs.Inner.Obeying.{EndsOrStops, IsContinued}
use Rattle.pram_run.specs.Inner.Sharing.{plan_of, shared_task}
use Rattle.pram_run.specs.Obeyed.{AllObeyed}
use Rattle.pram_run.proofs.runner.join_all.Given as goal

abbrev pub invariant-loop-thread : goal.invariant-loop-thread
invariant-loop-thread g l = record {
  goes_on : IsContinued l.fn.team.seat l.seat;
  order : l.yielded ++ into_iter_items l.thread-iterator ≡ vec_items l.fn.team.threads;
  ends : (k : ℕ) → k < length l.yielded → EndsOrStops (plan_of l.shared).rows k l.seat;
  obeyed : AllObeyed (shared_task l.shared) (plan_of l.shared).rows l.fn.team.seat
      (length l.yielded)
      l.seat;
  count : length l.yielded + into_iter_len l.thread-iterator ≡ vec_len l.fn.team.threads;
}
