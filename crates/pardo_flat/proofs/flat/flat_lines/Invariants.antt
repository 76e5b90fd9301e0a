use Rattle.std.proofs.Common.{◌≡◌, []}
use Rattle.pardo_flat.specs.Inner.Flats.{AreFlatSoFar}
use Rattle.pardo_flat.proofs.flat.flat_lines.Given as goal

abbrev pub invariant-loop-line : goal.invariant-loop-line
invariant-loop-line l = record {
  none : l.shapes.items ≡ [];
  flat : AreFlatSoFar l.program l.line-index l.flat.lines.items l.flat.firsts.items l.flat.most
      l.flat.loops l.flat.split;
}
