use Rattle.std.proofs.Common.{◌≡◌, ◌++◌, map}
use Rattle.std.specs.List.{range_with_len}
use Rattle.page_core.specs.Programs.{own_row}
use Rattle.page_core.proofs.names.push_own_rows.Given as goal

abbrev pub invariant-loop-which : goal.invariant-loop-which
invariant-loop-which l =
    l.rows.items ≡ l.fn.rows.items ++ map (own_row l.program l.loops) (range_with_len 0 l.which)
