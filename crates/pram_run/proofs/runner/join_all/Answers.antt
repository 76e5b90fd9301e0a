use Rattle.std.proofs.Common.{◌≡◌, ◌+◌, ◌++◌, ℕ, List, [], ◌∷◌, refl, sym, ap, subst}
use Rattle.std.proofs.Common.{◌∙◌, arith, vec_items, append_assoc, length, length-append}
use Rattle.std.specs.Vec.Iter.{into_iter_items}
use Rattle.pram_board.specs.Seats.{Desk}
use Rattle.pram_run.specs.Inner.Obeying.{HasObeyed}
use Rattle.pram_run.specs.Inner.Sharing.{plan_of, shared_task}
use Rattle.pram_run.specs.Obeyed.{AllObeyed}
use Rattle.pram_run.proofs.Endings.{goes_self, goes_united}
use Rattle.pram_run.proofs.Joining.{Thread, promised_next, kept_as, ends_more, obeyed_more}
use Rattle.pram_run.proofs.runner.join_all.Goals as goal

pub loop-thread-init : goal.loop-thread-init
loop-thread-init g c = record {
  goes_on = goes_self c.args.team.seat;
  order = c.into_iter-thread-iterator.ensures.into_iter_gives.0;
  ends = λ k h. absurd (omega arith);
  obeyed = refl;
  count = omega (arith, c.into_iter-thread-iterator.ensures.into_iter_gives.1);
}

pub join-seat-requires-clause-first : goal.join-seat-requires-clause-first
join-seat-requires-clause-first g c = c.loop-thread.invariant.goes_on.desk ∙ c.requires.seat

pub join-seat-requires-clause-second : goal.join-seat-requires-clause-second
join-seat-requires-clause-second g c =
    let promised =
    promised_next (plan_of c.args.shared.now).rows c.args.team.seat (vec_items c.args.team.threads) c.loop-thread.yielded
    c.in-Some.thread (into_iter_items c.next.new.self) _ c.in-Some.ensures.steps.0
    c.loop-thread.invariant.order
    (λ k d lt. c.requires.team.promised k d (omega (arith, c.args.team.threads.ok))) in
    (kept_as (plan_of c.args.shared.now).rows (length c.loop-thread.yielded) c.args.team.seat c.join.result
    c.in-Some.thread.promise promised c.join.ensures).0.desk ∙ c.requires.seat

pub loop-thread-preserved : goal.loop-thread-preserved
loop-thread-preserved g c =
    let was = c.loop-thread.invariant in
    let step = c.in-Some.ensures.steps in
    let rest = into_iter_items c.next.new.self in
    let thread = c.in-Some.thread in
    let done = c.loop-thread.yielded in
    let rows = (plan_of c.args.shared.now).rows in
    let promised = promised_next rows c.args.team.seat (vec_items c.args.team.threads) done thread rest _
    step.0 was.order (λ k d lt. c.requires.team.promised k d (omega (arith, c.args.team.threads.ok))) in
    let theirs : HasObeyed rows (length done) c.args.team.seat c.join.result =
    kept_as rows (length done) c.args.team.seat c.join.result thread.promise promised c.join.ensures in
    let order : done ++ (thread ∷ rest) ≡ vec_items c.args.team.threads =
    ap (λ (l : List Thread). done ++ l) (sym step.0) ∙ was.order in
    let more : length (done ++ thread ∷ []) ≡ length done + 1 = length-append done (thread ∷ []) in
    record {
      goes_on = goes_united c.args.team.seat c.loop-thread.seat
          c.join.result c.join-seat.result c.join-seat.ensures.unites was.goes_on theirs.0;
      order = append_assoc done (thread ∷ []) rest ∙ order;
      ends = ends_more rows c.loop-thread.seat c.join.result c.join-seat.result
          (length done) (length (done ++ thread ∷ [])) more
          (theirs.0.desk ∙ sym was.goes_on.desk) c.join-seat.ensures.unites was.ends theirs.1;
      obeyed = obeyed_more (shared_task c.args.shared.now) rows c.args.team.seat c.loop-thread.seat
          c.join.result c.join-seat.result (length done) (length (done ++ thread ∷ [])) more
          (ap (λ (d : Desk). d.task) c.requires.seat)
          c.join-seat.ensures.unites was.obeyed theirs.2;
      count = omega (arith, more);
    }

pub returns-clause-ends : goal.returns-clause-ends
returns-clause-ends g c k lt = c.loop-thread.invariant.ends k
    (omega (arith, c.loop-thread.invariant.count, c.in-None.ensures.steps.0))

pub returns-clause-obeyed : goal.returns-clause-obeyed
returns-clause-obeyed g c =
    let was = c.loop-thread.invariant in
    subst (λ (n : ℕ).
    AllObeyed (shared_task c.args.shared.now) (plan_of c.args.shared.now).rows c.args.team.seat n
    c.loop-thread.seat)
    (omega (arith, was.count, c.in-None.ensures.steps.0)) was.obeyed
