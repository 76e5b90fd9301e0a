use Rattle.std.proofs.Common.{ap, ◌∙◌}
use Rattle.pram_board.specs.Seats.{Desk}
use Rattle.pram_run.specs.Inner.Obeying.{AllWorked}
use Rattle.pram_run.proofs.Endings.{run_of, goes_trans, looked_goes}
use Rattle.pram_run.proofs.runner.run.Goals as goal

pub returns-clause-ran : goal.returns-clause-ran
returns-clause-ran g c =
    let worked = c.scoped-seat in
    let all : AllWorked c.args.board.now.task c.args.plan.now c.args.seat worked.result.0 =
    rw c.in_default.is at worked.ensures.1.0 in
    run_of c.args.board.now.task c.args.plan.now c.args.seat worked.result.0
    c.answer-answer.new.seat c.answer-answer.result
    (ap (λ (d : Desk). d.task) (worked.ensures.1.1.desk ∙ c.requires.given.2)) all
    c.answer-answer.ensures.told

pub returns-clause-begins : goal.returns-clause-begins
returns-clause-begins g c =
    (goes_trans c.args.seat c.scoped-seat.result.0 c.answer-answer.new.seat
    c.scoped-seat.ensures.1.1 (looked_goes _ _ c.answer-answer.ensures.looked)).begins

pub returns-clause-desk : goal.returns-clause-desk
returns-clause-desk g c = (looked_goes _ _ c.answer-answer.ensures.looked).desk
    ∙ c.scoped-seat.ensures.1.1.desk ∙ c.requires.given.2
