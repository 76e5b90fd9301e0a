use Rattle.std.proofs.Common.{◌≡◌, ◌++◌, map, take}
use Rattle.page_core.specs.Programs.{shared_row}
use Rattle.page_core.proofs.names.push_shared_rows.Given as goal

abbrev pub invariant-loop-array : goal.invariant-loop-array
invariant-loop-array l =
    l.rows.items ≡ l.fn.rows.items ++ map shared_row (take l.array-index l.arrays)
