use Rattle.std.proofs.Common.{◌≡◌, ◌+◌, drop, false}
use Rattle.command_data.specs.CellLists.{part_len}
use Rattle.command_data.proofs.cell_list.part_len.Given as goal

abbrev pub invariant-loop-at : goal.invariant-loop-at
invariant-loop-at l = part_len false l.text ≡ l.at + part_len l.is_open (drop l.at l.text)
