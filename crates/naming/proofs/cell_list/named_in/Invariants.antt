use Rattle.std.proofs.Common.{◌≡◌, ◌≤◌, ◌++◌, ℕ, List, All, length, vec_items}
use Rattle.command_data.specs.CellLists.{parts_left, parts_of}
use Rattle.naming.specs.CellLists.{AreStretches}
use Rattle.naming.specs.declared.places.Stretch.{Stretch}
use Rattle.naming.proofs.cell_list.named_in.Given as goal

-- the parts so far, and what they name
abbrev pub invariant-loop-left : goal.invariant-loop-left
invariant-loop-left l = (done : List (List ℕ)) × (parts_of l.text ≡ done ++ parts_left l.left)
    × AreStretches l.spelled.names done (vec_items l.named)
    × All (λ (cells : Stretch). cells.end ≤ l.spelled.job.cells) (vec_items l.named)

abbrev pub decreases-loop-left : goal.decreases-loop-left
decreases-loop-left l = length (parts_left l.left)
