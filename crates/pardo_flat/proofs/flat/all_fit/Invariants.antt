use Rattle.std.proofs.Common.{◌≡◌, ◌<◌, ℕ, [], Some, true}
use Rattle.std.specs.Prelude.{slice_get}
use Rattle.pardo_program.specs.declared.statement.Line.{Line}
use Rattle.pardo_flat.specs.Flat.{fits}
use Rattle.pardo_flat.proofs.flat.all_fit.Given as goal

abbrev pub invariant-loop-line : goal.invariant-loop-line
invariant-loop-line l = record {
  none : l.shapes.items ≡ [];
  fit : (j : ℕ) → j < l.line-index → (line : Line) →
      slice_get l.program.lines j ≡ Some line →
      fits line.statement ≡ true;
}
