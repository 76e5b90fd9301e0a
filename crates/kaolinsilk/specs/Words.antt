-- What a caller's own clauses name, passed on.
pub use Rattle.walkx.specs.Records.{Knows}
pub use Rattle.walkx.specs.Serving.{Serves}
pub use Rattle.pram_board.specs.Seats.{HasSeen, IsLater}
pub use Rattle.pram_board.specs.Worked.{Works}
pub use Rattle.pram_step.specs.Runs.{IsAnswer, IsReached, state_after}
