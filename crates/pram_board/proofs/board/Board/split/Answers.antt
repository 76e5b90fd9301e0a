use Rattle.std.proofs.Common.{rules}
use Rattle.pram_board.proofs.Keeps.{splitting}
use Rattle.pram_board.proofs.Steps.{some_words}
use Rattle.pram_board.proofs.board.Board.split.Goals as goal

pub split_seat-other-requires : goal.split_seat-other-requires
split_seat-other-requires c =
    (search rules, some_words _ _ (c.self.invariant.2).layout c.self.invariant.1, splitting _ _ _)
