use Rattle.std.proofs.Common.{◌∙◌, subst}
use Rattle.lawful_walk.specs.Moments.{Sound}
use Rattle.pram_board.specs.Seats.{Desk}
use Rattle.pram_run.specs.Inner.Sharing.{plan_of}
use Rattle.pram_run.proofs.Endings.{ends_front, goes_united}
use Rattle.pram_run.proofs.heard.join_beside.Goals as goal

pub join-seat-requires-clause-first : goal.join-seat-requires-clause-first
join-seat-requires-clause-first g c = c.join_all-seat.ensures.goes_on.desk ∙ c.requires.desk

pub join-seat-requires-clause-second : goal.join-seat-requires-clause-second
join-seat-requires-clause-second g c = c.requires.looker.desk ∙ c.requires.desk

pub returns : goal.returns
returns g c =
    let rows = (plan_of c.args.shared.now).rows in
    let seat = c.join_all-seat.result in
    let is = c.join-seat.ensures.unites in record {
      seat = seat;
      obeyed = c.join_all-seat.ensures.obeyed;
      ends = λ worker lt. ends_front rows worker seat c.args.looker c.join-seat.result is
          (c.join_all-seat.ensures.ends worker lt);
      is = is;
      goes_on = goes_united c.args.team.seat seat c.args.looker c.join-seat.result is
          c.join_all-seat.ensures.goes_on c.requires.looker;
      sound = subst (λ (d : Desk). Sound d.task.job d.task.layout c.join-seat.result.record_of)
          c.join-seat.ensures.desk c.facts.ensures;
    }
