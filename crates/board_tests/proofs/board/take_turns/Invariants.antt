use Rattle.pram_board.specs.Worked.{Works}
use Rattle.board_tests.proofs.board.take_turns.Given as goal

abbrev pub invariant-loop : goal.invariant-loop
invariant-loop l = record {
  first : Works l.board l.first.seat l.first.worker;
  second : Works l.board l.second.seat l.second.worker;
}
