use Rattle.std.proofs.Common.{◌≡◌, ◌++◌, take}
use Rattle.pardo_flat.specs.Flat.{hidden}
use Rattle.pardo_flat.proofs.flat.push_hidden.Given as goal

abbrev pub invariant-loop-index : goal.invariant-loop-index
invariant-loop-index l = l.lines.items ≡ l.initial.lines.items
    ++ hidden 0 l.line l.base (take l.index l.pieces)
