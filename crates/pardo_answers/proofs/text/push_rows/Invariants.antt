use Rattle.std.proofs.Common.{◌≡◌, ◌-◌, ◌/◌, ◌++◌, get_or, length}
use Rattle.std.specs.List.{flat_map, range_with_len}
use Rattle.pardo_job.specs.Printed.{row_line}
use Rattle.pardo_answers.proofs.text.push_rows.Given as goal

-- the rows so far and those to come are all rows
abbrev pub invariant-loop-row : goal.invariant-loop-row
invariant-loop-row l =
    l.text.items ++ flat_map (row_line (λ cell. get_or l.cells cell 0) l.array l.width)
    (range_with_len l.row (l.row-end - l.row))
    ≡ l.fn.text.items ++ flat_map (row_line (λ cell. get_or l.cells cell 0) l.array l.width)
    (range_with_len 0 (length l.array.start / l.width))
