use Rattle.std.proofs.Common.{◌≡◌, ◌-◌, ◌++◌}
use Rattle.std.specs.List.{flat_map, range_with_len}
use Rattle.pardo_job.specs.Ends.{gone_in}
use Rattle.pardo_answers.specs.Records.{gone_record}
use Rattle.pardo_answers.proofs.records.push_gone.Given as goal

-- the records so far and those to come are all records
abbrev pub invariant-loop-processor : goal.invariant-loop-processor
invariant-loop-processor l =
    l.text.items ++ flat_map (λ i. gone_record i (gone_in l.lines.gone.items i))
    (range_with_len l.processor (l.procs - l.processor))
    ≡ l.fn.text.items ++ flat_map (λ i. gone_record i (gone_in l.lines.gone.items i))
    (range_with_len 0 l.procs)
