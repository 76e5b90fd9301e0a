use Rattle.std.proofs.Common.{◌<◌, ap, subst, ◌∙◌}
use Rattle.pram_words.specs.Words.{length_of}
use Rattle.pram_board.specs.Seats.{Desk, SeatData}
use Rattle.pram_board.proofs.Memory.{no_loads, one_load}
use Rattle.pram_board.proofs.Steps.{may_load}
use Rattle.pram_board.proofs.board.Board.hint.Goals as goal

pub load-requires-clause-allowed : goal.load-requires-clause-allowed
load-requires-clause-allowed c = may_load c.args.self.now.task _ c.node_word.result
    (subst (λ (d : Desk). c.node_word.result < length_of d.task.layout) c.self.view_is
    c.node_word.ensures.below)

pub returns-clause-loads : goal.returns-clause-loads
returns-clause-loads c = one_load 0 c.node_word.result c.load.result c.args.seat.now
    c.args.seat.now c.load.new.seat (no_loads c.args.seat.now) c.load.ensures.grows

pub returns-clause-desk : goal.returns-clause-desk
returns-clause-desk c = ap (λ (p : SeatData). p.desk) c.load.ensures.grows ∙ c.requires
