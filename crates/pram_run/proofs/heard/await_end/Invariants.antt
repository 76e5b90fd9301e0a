use Rattle.pram_run.specs.Obeyed.{HasLooked}
use Rattle.pram_run.proofs.heard.await_end.Given as goal

abbrev pub invariant-loop : goal.invariant-loop
invariant-loop g l = HasLooked l.fn.seat l.seat
