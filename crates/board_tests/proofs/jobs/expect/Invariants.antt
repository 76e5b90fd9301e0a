use denote.Shadow.{shadow}
use denote.Text.{Utf8}
use Rattle.board_tests.proofs.jobs.expect.Given as goal

abbrev pub invariant-loop-line : goal.invariant-loop-line
invariant-loop-line g l = shadow (Utf8 l.call)
