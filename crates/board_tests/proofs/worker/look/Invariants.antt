use Rattle.walkx.specs.Reads.{LooksFit}
use Rattle.walkx.specs.Serving.{FollowsScript}
use Rattle.board_tests.proofs.worker.look.Given as goal

abbrev pub invariant-loop-number : goal.invariant-loop-number
invariant-loop-number g l = record {
  follows : FollowsScript l.bench.layout l.reader;
  fits : LooksFit l.bench.job l.bench.layout l.reader.looking;
}
