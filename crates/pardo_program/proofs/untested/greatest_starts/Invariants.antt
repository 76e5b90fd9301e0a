use Rattle.std.proofs.Common.{◌≡◌, map, take}
use Rattle.pardo_program.specs.Tests.{greatest_start}
use Rattle.pardo_program.proofs.untested.greatest_starts.Given as goal

abbrev pub invariant-loop-variable : goal.invariant-loop-variable
invariant-loop-variable l =
    l.mosts.items ≡ map greatest_start (take l.variable-index l.variables)
