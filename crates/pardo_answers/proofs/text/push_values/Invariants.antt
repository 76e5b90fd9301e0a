use Rattle.std.proofs.Common.{◌≡◌, ◌+◌, ◌-◌, ◌++◌, codes, decimal, get_or}
use Rattle.std.specs.List.{flat_map, range_with_len}
use Rattle.pardo_job.specs.Printed.{values_text}
use Rattle.pardo_answers.proofs.text.push_values.Given as goal

-- the values so far and those to come are all values
abbrev pub invariant-loop-offset : goal.invariant-loop-offset
invariant-loop-offset l =
    l.text.items ++ flat_map (λ cell. codes " " ++ decimal (get_or l.cells cell 0))
    (range_with_len (l.first + l.offset) (l.count - l.offset))
    ≡ l.fn.text.items ++ values_text (λ cell. get_or l.cells cell 0) l.first l.count
