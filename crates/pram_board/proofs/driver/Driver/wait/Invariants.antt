use Rattle.std.proofs.Common.{◌≡◌}
use Rattle.pram_board.specs.Inner.Plays.{IsAt, OnlyLooked, driving, post_task}
use Rattle.pram_board.proofs.driver.Driver.wait.Given as goal

abbrev pub invariant-looks : goal.invariant-looks
invariant-looks g l = record {
  same : l.self.seat.ghost_name ≡ l.fn.self.seat.ghost_name;
  here : IsAt (post_task l.post) (driving l.self);
  looked : OnlyLooked (post_task l.post) (driving l.fn.self) l.fn.patience (driving l.self)
      l.patience;
}

abbrev pub decreases-looks : goal.decreases-looks
decreases-looks g l = l.patience.left
