use Rattle.std.proofs.Common.{◌≡◌}
use Rattle.walk_memory.specs.Memory.{own_at}
use Rattle.pram_board.proofs.Stopping.{RunsTo}
use Rattle.pram_board.proofs.stops.stop_alone.Given as goal

abbrev pub invariant-loop-step : goal.invariant-loop-step
invariant-loop-step l = record {
  own : l.own ≡ own_at l.fn.job l.step l.fn.i;
  runs : RunsTo l.fn.job l.fn.i l.step;
}
