use Rattle.std.proofs.Common.{◌≡◌, ◌-◌, ◌++◌}
use Rattle.std.specs.List.{flat_map, range_with_len}
use Rattle.pardo_job.specs.Printed.{gone_line}
use Rattle.pardo_job.specs.Ends.{gone_in}
use Rattle.pardo_answers.proofs.print.push_gone.Given as goal

-- the lines so far and those to come are all lines
abbrev pub invariant-loop-processor : goal.invariant-loop-processor
invariant-loop-processor l =
    l.text.items ++ flat_map (λ i. gone_line i (gone_in l.lines.gone.items i))
    (range_with_len l.processor (l.procs - l.processor))
    ≡ l.fn.text.items ++ flat_map (λ i. gone_line i (gone_in l.lines.gone.items i))
    (range_with_len 0 l.procs)
