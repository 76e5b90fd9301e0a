use Rattle.std.proofs.Common.{◌≡◌, take}
use Rattle.pardo_program.proofs.program.copied_privates.Given as goal

abbrev pub invariant-loop-variable : goal.invariant-loop-variable
invariant-loop-variable l = l.copies.items ≡ take l.variable-index l.privates
