use Rattle.std.proofs.Common.{◌≡◌, ℕ, subst, sym, arith, vec_len}
use Rattle.pram_board.specs.Seats.{SeatData}
use Rattle.pram_run.specs.Inner.Obeying.{IsContinued}
use Rattle.pram_run.specs.Inner.Sharing.{board_of, plan_of, shared_task}
use Rattle.pram_run.specs.Inner.Teams.{IsAtWork}
use Rattle.pram_run.specs.Obeyed.{AllObeyed}
use Rattle.pram_run.proofs.runner.work_in.Goals as goal

pub join_all-seat-requires-clause-seat : goal.join_all-seat-requires-clause-seat
join_all-seat-requires-clause-seat g c =
    subst (λ (p : SeatData). p.desk ≡ board_of c.args.shared.now)
    (sym c.start_all-team.ensures.seat) c.requires

pub join_all-seat-requires-clause-team : goal.join_all-seat-requires-clause-team
join_all-seat-requires-clause-team g c =
    subst (λ (p : SeatData). IsAtWork (plan_of c.args.shared.now) p c.start_all-team.result)
    (sym c.start_all-team.ensures.seat) c.start_all-team.ensures

pub returns-then-whole-clause-worked : goal.returns-then-whole-clause-worked
returns-then-whole-clause-worked g c =
    let rows = (plan_of c.args.shared.now).rows in
    let count = c.is_whole-whole.ensures.0 c.if-whole.true in record {
      ends = λ worker lt. c.join_all-seat.ensures.ends worker (omega (arith, count));
      obeyed = subst (λ (n : ℕ).
          AllObeyed (shared_task c.args.shared.now) rows c.args.seat n c.join_all-seat.result) count
          (subst (λ (p : SeatData). AllObeyed (shared_task c.args.shared.now) rows p
          (vec_len c.start_all-team.result.threads) c.join_all-seat.result)
          c.start_all-team.ensures.seat c.join_all-seat.ensures.obeyed);
    }

pub returns-then-whole-clause-goes_on : goal.returns-then-whole-clause-goes_on
returns-then-whole-clause-goes_on g c = subst (λ (p : SeatData). IsContinued p c.join_all-seat.result)
    c.start_all-team.ensures.seat c.join_all-seat.ensures.goes_on

pub returns-else-whole-clause-goes_on : goal.returns-else-whole-clause-goes_on
returns-else-whole-clause-goes_on g c = subst (λ (p : SeatData). IsContinued p c.join_all-seat.result)
    c.start_all-team.ensures.seat c.join_all-seat.ensures.goes_on
