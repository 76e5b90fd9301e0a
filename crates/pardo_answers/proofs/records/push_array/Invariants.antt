use Rattle.std.proofs.Common.{◌≡◌, ◌+◌, ◌-◌, ◌++◌, get_or, length}
use Rattle.std.specs.List.{flat_map, range_with_len}
use Rattle.pardo_answers.specs.Records.{array_records, place_record}
use Rattle.pardo_answers.proofs.records.push_array.Given as goal

-- the records so far and those to come are all records
abbrev pub invariant-loop-index : goal.invariant-loop-index
invariant-loop-index l =
    l.text.items
    ++ flat_map (λ k. place_record l.array k (get_or l.cells (l.array.base + k) 0))
    (range_with_len l.index (length l.array.start - l.index))
    ≡ l.fn.text.items ++ array_records (λ cell. get_or l.cells cell 0) l.array
