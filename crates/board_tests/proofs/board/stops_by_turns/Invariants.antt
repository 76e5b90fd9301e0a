use Rattle.pram_board.specs.Worked.{Works}
use Rattle.board_tests.proofs.board.stops_by_turns.Given as goal

abbrev pub invariant-loop-calls : goal.invariant-loop-calls
invariant-loop-calls l = record { works : Works l.board l.seat l.worker }
