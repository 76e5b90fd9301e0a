use Rattle.std.proofs.Common.{◌≡◌}
use Rattle.pram_board.specs.Worked.{Works}
use Rattle.board_tests.proofs.board.read_beside.Given as goal

abbrev pub invariant-loop : goal.invariant-loop
invariant-loop g l = record {
  reader : l.reader.desk ≡ l.board;
  works : Works l.board l.seat l.worker;
}
