use Rattle.std.proofs.Common.{◌≡◌, ◌+◌, ◌-◌}
use Rattle.walkx.specs.Bound.{own_step_bound}
use Rattle.walkx.specs.Turns.{turning}
use Rattle.pram_board.specs.Inner.Plays.{IsWalking, driving}
use Rattle.pram_board.proofs.Working.{Ranged}
use Rattle.pram_board.proofs.driver.Driver.turns.Given as goal

abbrev pub invariant-visits : goal.invariant-visits
invariant-visits g l = record {
  same : l.self.seat.ghost_name ≡ l.fn.self.seat.ghost_name;
  walks : IsWalking l.fn.self.board.now.task (driving l.self)
      (turning l.number l.node l.phase l.memory);
  ranged : Ranged l.fn.self.board.now.task (driving l.fn.self, l.fn.patience.looks)
      (turning l.number l.start l.phase l.fn.memory) (driving l.self, l.patience)
      (turning l.number l.node l.phase l.memory);
}

abbrev pub decreases-visits : goal.decreases-visits
decreases-visits g l =
    l.fn.self.made + own_step_bound l.fn.self.board.now.task.job + l.patience.looks
    - (l.fn.patience.looks + l.self.made)
