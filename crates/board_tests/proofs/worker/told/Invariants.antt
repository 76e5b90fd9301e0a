use Rattle.walkx.specs.Serving.{Serves}
use Rattle.board_tests.proofs.worker.told.Given as goal

abbrev pub invariant-loop-part : goal.invariant-loop-part
invariant-loop-part g l = Serves l.bench.job l.bench.layout l.worker
