use Rattle.std.proofs.Common.{◌≡◌, drop}
use Rattle.command_data.specs.CellLists.{parts_left, parts_of}
use Rattle.command_data.proofs.cell_list.CellList.part.Given as goal

abbrev pub invariant-loop-part : goal.invariant-loop-part
invariant-loop-part l = parts_left l.left ≡ drop l._part (parts_of l.self.text.now)
