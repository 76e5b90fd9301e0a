use denote.Shadow.{shadow}
use denote.Text.{Utf8}
use Rattle.machine_tests.proofs.table.expect.Given as goal

abbrev pub invariant-loop-line : goal.invariant-loop-line
invariant-loop-line g l = shadow (Utf8 l.group) × shadow (Utf8 l.text)
