use Rattle.std.proofs.Common.{◌≡◌, ◌≤◌, ◌*◌, take}
use Rattle.pram_step.specs.Runs.{state_after}
use Rattle.pram_board.specs.Seats.{HasLoaded}
use Rattle.pram_board.proofs.board.Board.memory.Given as goal

abbrev pub invariant-loop-cell : goal.invariant-loop-cell
invariant-loop-cell l = record {
  loads : HasLoaded (2 * l.cell) l.fn.seat l.seat;
  values : l.values.items ≡ take l.cell (state_after l.self.task.job l.self.task.job.steps);
  room : l.self.task.job.cells ≤ l.values.cap;
  len : l.values.len ≡ l.cell;
}
