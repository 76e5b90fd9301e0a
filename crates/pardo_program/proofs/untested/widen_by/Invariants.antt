use Rattle.std.proofs.Common.{◌≡◌, drop}
use Rattle.pardo_program.specs.Tests.{widened_by}
use Rattle.pardo_program.proofs.untested.widen_by.Given as goal

abbrev pub invariant-loop-line : goal.invariant-loop-line
invariant-loop-line l =
    widened_by l.mosts (drop l.line-index l.lines) ≡ widened_by l.initial.mosts l.lines
