use Rattle.std.proofs.Common.{ap, rules}
use Rattle.pram_board.specs.Inner.Plays.{Driving}
use Rattle.pram_board.proofs.Handing.{worked_for}
use Rattle.pram_board.proofs.board.Board.go.Goals as goal

pub returns-clause-worked : goal.returns-clause-worked
returns-clause-worked g c =
    worked_for _ _ _ _ _ _ _ _ _ _ (ap (λ (d : Driving). d.desk.task) c.new-driver.ensures.is)
    (ap (λ (d : Driving). d.seat) c.new-driver.ensures.is) (search (rules, c.end.ensures.seat))
    c.work-stay.ensures.worked
