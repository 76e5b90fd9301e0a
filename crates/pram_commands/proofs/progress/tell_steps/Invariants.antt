use Rattle.std.proofs.Common.{◌≡◌}
use Rattle.pram_commands.proofs.progress.tell_steps.Given as goal

-- the seat is of the board
abbrev pub invariant-loop : goal.invariant-loop
invariant-loop g l = l.seat.desk ≡ l.board
