use Rattle.std.proofs.Common.{◌≡◌, ◌+◌, ◌-◌}
use Rattle.walkx.specs.Bound.{own_step_bound}
use Rattle.lawful_walk.specs.Moments.{Sound}
use Rattle.pram_board.specs.Inner.Plays.{driving}
use Rattle.pram_board.specs.Worked.{Works}
use Rattle.pram_board.proofs.Working.{Sofar}
use Rattle.pram_board.proofs.driver.Driver.work.Given as goal

abbrev pub invariant-loop-ended : goal.invariant-loop-ended
invariant-loop-ended g l = record {
  same : l.self.seat.ghost_name ≡ l.fn.self.seat.ghost_name;
  board : l.self.board.now ≡ l.fn.self.board.now;
  works : Works l.self.board.now l.self.seat.now l.worker;
  sound : Sound l.self.board.now.task.job l.self.board.now.task.layout l.self.seat.now.record_of;
  sofar : Sofar l.self.board.now (driving l.fn.self) l.fn.worker.walking l.until
      (driving l.self, l.patience.looks) l.worker.walking;
}

abbrev pub decreases-loop-ended : goal.decreases-loop-ended
decreases-loop-ended g l =
    own_step_bound l.self.board.now.task.job + l.patience.looks - l.self.made
