use Rattle.pram_board.proofs.Handing.{worked_limit}
use Rattle.pram_board.proofs.board.Board.work.Goals as goal

pub returns-clause-worked : goal.returns-clause-worked
returns-clause-worked g c = worked_limit _ _ _ _ _ _ _ _ c.of.ensures c.go.ensures.worked
