use Rattle.std.proofs.Common.{◌*◌}
use Rattle.pram_board.specs.Seats.{HasLoaded}
use Rattle.pram_board.proofs.Stopping.{EndBelow}
use Rattle.pram_board.proofs.board.Board.last_stop.Given as goal

abbrev pub invariant-loop-i : goal.invariant-loop-i
invariant-loop-i l = record {
  loads : HasLoaded (10 * l.i) l.fn.seat l.seat;
  below : EndBelow l.self.task.job l.i l.last;
}
