use Rattle.std.proofs.Common.{ap, ◌∙◌}
use Rattle.pram_board.specs.Seats.{Desk}
use Rattle.pram_run.specs.Inner.Sharing.{plan_of, shared_task}
use Rattle.pram_run.proofs.Endings.{goes_trans, looked_goes}
use Rattle.pram_run.proofs.Hearing.{all_whole, ended_early, ended_late}
use Rattle.pram_run.proofs.heard.hear_end.Goals as goal

pub await_end-looker-requires : goal.await_end-looker-requires
await_end-looker-requires g c = c.requires.seat.desk ∙ c.requires.desk

pub join_beside-seat-requires-clause-looker : goal.join_beside-seat-requires-clause-looker
join_beside-seat-requires-clause-looker g c κs within =
    goes_trans _ _ _ c.requires.seat (looked_goes _ _ c.await_end-looker.ensures.looked)

pub join_beside-seat-requires-2-clause-looker : goal.join_beside-seat-requires-2-clause-looker
join_beside-seat-requires-2-clause-looker g c κs within =
    goes_trans _ _ _ c.requires.seat (looked_goes _ _ c.await_end-looker.ensures.looked)

pub last_answer-seat-requires : goal.last_answer-seat-requires
last_answer-seat-requires g c = c.join_beside-seat-2.ensures.goes_on.desk ∙ c.requires.desk

pub returns-then-tells_end-clause-ended : goal.returns-then-tells_end-clause-ended
returns-then-tells_end-clause-ended g c =
    let looker = c.await_end-looker in
    ended_early (shared_task c.args.shared.now) (plan_of c.args.shared.now) c.args.team.seat
    c.args.seat looker.result.0 _ c.join_beside-seat.result c.join_beside-seat.ensures
    c.requires.team.most looker.ensures.looked looker.result.1
    (c.tells_end.ensures.0 c.if-tells_end.true) looker.ensures.told

pub returns-then-tells_end-clause-goes_on : goal.returns-then-tells_end-clause-goes_on
returns-then-tells_end-clause-goes_on g c = c.join_beside-seat.ensures.goes_on

pub returns-clause-ended : goal.returns-clause-ended
returns-clause-ended g c =
    let looker = c.await_end-looker in
    let last = c.last_answer-seat in
    ended_late (shared_task c.args.shared.now) (plan_of c.args.shared.now) c.args.team.seat
    c.args.seat looker.result.0 _ c.join_beside-seat-2.result c.join_beside-seat-2.ensures
    c.requires.team.most looker.ensures.looked last.result.0 last.result.1
    (ap (λ (d : Desk). d.task) c.requires.desk) c.requires.answers last.ensures.told
    (all_whole last.result.1 c.is_whole-whole.result _ c.is_whole-whole.ensures.0
    last.ensures.all) last.ensures.some

pub returns-clause-goes_on : goal.returns-clause-goes_on
returns-clause-goes_on g c =
    goes_trans _ _ _ c.join_beside-seat-2.ensures.goes_on
    (looked_goes _ _ c.last_answer-seat.ensures.looked)
