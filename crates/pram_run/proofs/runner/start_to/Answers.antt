use Rattle.std.proofs.Common.{◌≡◌, ℕ, ◌+◌, ◌<◌, List, length, sym, ap, subst, ◌∙◌, arith, get_or}
use Rattle.pram_board.specs.Seats.{SeatData}
use Rattle.pram_run.specs.declared.runner.Obeyed.{Obeyed}
use Rattle.pram_run.specs.Inner.Obeying.{HasObeyed, IsToObey}
use Rattle.pram_run.specs.Inner.Sharing.{plan_of}
use Rattle.pram_run.proofs.Joining.{Thread, numbered_more}
use Rattle.pram_run.proofs.runner.start_to.Goals as goal

pub spawn_with-requires-clause-keeps : goal.spawn_with-requires-clause-keeps
spawn_with-requires-clause-keeps g c κs within r h =
    let P : SeatData → Type 0 = λ s. HasObeyed c.rows-rows.result.now c.loop-worker.worker s r in
    subst P (sym c.of.ensures) (h.0, h.1.0, h.1.1)

pub loop-worker-preserved : goal.loop-worker-preserved
loop-worker-preserved g c =
    let was = c.loop-worker.invariant in
    let ok = c.in-Ok.ensures.ok in
    let promised : IsToObey (plan_of c.args.shared.now).rows c.loop-worker.worker c.args.team.seat
    c.in-Ok.thread.promise = record {
      rows = ap (λ (p : Obeyed). p.rows.now) ok ∙ c.rows-rows.ensures;
      worker = ap (λ (p : Obeyed). p.worker) ok;
      seat = ap (λ (p : Obeyed). p.before.value) ok
          ∙ (c.of.ensures ∙ (c.split-mine.ensures.second ∙ was.seat));
    } in
    let count : length c.loop-worker.threads.items ≡ c.loop-worker.worker =
    omega (arith, was.len, c.loop-worker.threads.ok) in
    let P : ℕ → Thread → Type 0 =
    λ k t. IsToObey (plan_of c.args.shared.now).rows k c.args.team.seat t.promise in
    let Q : List Thread → Type 0 =
    λ l. (k : ℕ) (d : Thread) → k < c.loop-worker.worker + 1 → P k (get_or l k d) in record {
      seat = c.split-mine.ensures.first ∙ was.seat;
      len = omega (arith, c.push_reserved.ensures.len);
      most = omega (arith, c.push_reserved.ensures.len, was.len, c.loop-worker-test.true, c.min-end.ensures);
      promised = subst Q (sym c.push_reserved.ensures.items)
          (numbered_more P c.loop-worker.threads.items
          c.in-Ok.thread c.loop-worker.worker count was.promised promised);
    }
