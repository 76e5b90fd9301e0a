use Rattle.std.proofs.Common.{◌≡◌, ◌++◌, [], map}
use Rattle.std.specs.List.{range_with_len}
use Rattle.page_core.specs.Requests.{row_in}
use Rattle.page_core.proofs.requests.all_rows.Given as goal

abbrev pub invariant-loop-processor : goal.invariant-loop-processor
invariant-loop-processor l =
    l.rows.items ≡ [] ++ map (row_in l.job l.state) (range_with_len 0 l.processor)
