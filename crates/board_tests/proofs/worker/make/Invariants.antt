use Rattle.walkx.specs.Serving.{Serves}
use Rattle.board_tests.proofs.worker.make.Given as goal

abbrev pub invariant-loop : goal.invariant-loop
invariant-loop g l = Serves l.bench.job l.bench.layout l.worker
