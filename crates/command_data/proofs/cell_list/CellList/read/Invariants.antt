use Rattle.std.proofs.Common.{All, length}
use Rattle.command_data.specs.CellLists.{SpellsCells, SpellsPart, parts_left}
use Rattle.command_data.proofs.cell_list.CellList.read.Given as goal

-- the parts that are left are those on which it rests
abbrev pub invariant-loop-left : goal.invariant-loop-left
invariant-loop-left l = record {
  down : SpellsCells l.text → All SpellsPart (parts_left l.left);
  up : All SpellsPart (parts_left l.left) → SpellsCells l.text;
}

abbrev pub decreases-loop-left : goal.decreases-loop-left
decreases-loop-left l = length (parts_left l.left)
