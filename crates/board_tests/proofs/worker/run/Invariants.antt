use Rattle.walkx.specs.Serving.{Serves}
use Rattle.board_tests.proofs.worker.run.Given as goal

abbrev pub invariant-loop-made : goal.invariant-loop-made
invariant-loop-made g l = Serves l.bench.job l.bench.layout l.worker
