use Rattle.std.proofs.Common.{◌≡◌, ◌-◌, length}
use Rattle.walkx.specs.Serving.{FollowsScript}
use Rattle.walkx.specs.Reads.{LooksFit}
use Rattle.pram_board.proofs.Looking.{Looks}
use Rattle.pram_board.proofs.board.Board.read.Given as goal

abbrev pub invariant-loop-reading : goal.invariant-loop-reading
invariant-loop-reading l = record {
  desk : l.seat.desk ≡ l.self;
  follows : FollowsScript l.self.task.layout l.reader;
  fits : LooksFit l.self.task.job l.self.task.layout l.reader.looking;
  looks : Looks l.self.task l.initial.seat l.seat l.cell l.reader.looking;
}

abbrev pub decreases-loop-reading : goal.decreases-loop-reading
decreases-loop-reading l = 5 - length l.reader.looking.heard
