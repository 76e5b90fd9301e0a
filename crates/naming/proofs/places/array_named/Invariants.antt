use Rattle.std.proofs.Common.{◌≡◌, drop}
use Rattle.naming.specs.CellLists.{array_named}
use Rattle.naming.proofs.places.array_named.Given as goal

-- no array so far has the name
abbrev pub invariant-loop-array : goal.invariant-loop-array
invariant-loop-array l = array_named l.arrays l.name ≡ array_named (drop l.array-index l.arrays) l.name
