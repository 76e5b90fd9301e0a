use Rattle.std.proofs.Common.{◌<◌, sym, subst}
use Rattle.pram_words.specs.Words.{places_of}
use Rattle.pram_board.specs.Seats.{Desk}
use Rattle.pram_board.proofs.Memory.{cell_place}
use Rattle.pram_board.proofs.board.Board.cell_word.Goals as goal

pub place_word-requires : goal.place_word-requires
place_word-requires c = subst (λ (d : Desk). c.args.cell < places_of d.task.layout)
    (sym c.self.view_is) (cell_place c.args.self.now.task c.args.cell c.facts.ensures c.requires)

pub returns-clause-place : goal.returns-clause-place
returns-clause-place c = cell_place c.args.self.now.task c.args.cell c.facts.ensures c.requires
