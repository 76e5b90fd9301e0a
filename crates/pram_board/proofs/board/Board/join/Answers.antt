use Rattle.std.proofs.Common.{rules}
use Rattle.pram_board.proofs.Keeps.{joining}
use Rattle.pram_board.proofs.Steps.{some_words}
use Rattle.pram_board.proofs.Remembering.{remembers_first, remembers_second}
use Rattle.pram_board.proofs.board.Board.join.Goals as goal

pub join_seat-requires : goal.join_seat-requires
join_seat-requires c = (
  search rules,
  search rules,
  search rules,
  some_words _ _ (c.self.invariant.2).layout c.self.invariant.1,
  joining _ _ _ _ _ c.second.invariant.0,
)

pub returns-clause-keeps_first : goal.returns-clause-keeps_first
returns-clause-keeps_first c = remembers_first c.args.first c.args.second
    (record { desk = c.args.self.now; record_of = c.join_seat.new.seat.me.0.heard }) (search rules)

pub returns-clause-keeps_second : goal.returns-clause-keeps_second
returns-clause-keeps_second c = remembers_second c.args.first c.args.second
    (record { desk = c.args.self.now; record_of = c.join_seat.new.seat.me.0.heard }) (search rules)
