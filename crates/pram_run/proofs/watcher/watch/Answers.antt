use Rattle.std.proofs.Common.{◌∙◌, ap}
use Rattle.pram_board.specs.Seats.{Desk}
use Rattle.pram_run.specs.Inner.Obeying.{AllEndOrStop}
use Rattle.pram_run.proofs.Endings.{answered_at, goes_trans, looked_goes}
use Rattle.pram_run.proofs.Watches.{watched_later}
use Rattle.pram_run.proofs.watcher.watch.Goals as goal

pub returns-in-Ok-answer-clause-watched : goal.returns-in-Ok-answer-clause-watched
returns-in-Ok-answer-clause-watched g c =
    let task = c.args.board.now.task in
    let plan = c.args.plan.now in
    let watched = c.scoped-seat in
    let all : AllEndOrStop plan watched.result.0 = rw c.in-Ok.is at watched.ensures.1.0 in
    watched_later task plan c.args.cells.now c.args.rounds c.args.seat watched.result.0
    c.answer.new.seat c.in-Ok.sights.items c.in-Ok-answer.answer
    (rw c.in-Ok.is at watched.ensures.1.1.0)
    (answered_at task plan watched.result.0 c.answer.new.seat c.in-Ok-answer.answer
    (ap (λ (d : Desk). d.task) (watched.ensures.1.1.1.desk ∙ c.requires.given.2)) (λ un. all)
    (rw c.in-Ok-answer.is at c.answer.ensures.told))

pub returns-in-Ok-answer-clause-begins : goal.returns-in-Ok-answer-clause-begins
returns-in-Ok-answer-clause-begins g c =
    (goes_trans c.args.seat c.scoped-seat.result.0 c.answer.new.seat
    c.scoped-seat.ensures.1.1.1 (looked_goes _ _ c.answer.ensures.looked)).begins

pub returns-clause-begins : goal.returns-clause-begins
returns-clause-begins g c =
    (goes_trans c.args.seat c.scoped-seat.result.0 c.answer.new.seat
    c.scoped-seat.ensures.1.1.1 (looked_goes _ _ c.answer.ensures.looked)).begins

pub returns-in-Ok-answer-clause-desk : goal.returns-in-Ok-answer-clause-desk
returns-in-Ok-answer-clause-desk g c = (looked_goes _ _ c.answer.ensures.looked).desk
    ∙ c.scoped-seat.ensures.1.1.1.desk ∙ c.requires.given.2

pub returns-clause-desk : goal.returns-clause-desk
returns-clause-desk g c = (looked_goes _ _ c.answer.ensures.looked).desk
    ∙ c.scoped-seat.ensures.1.1.1.desk ∙ c.requires.given.2
