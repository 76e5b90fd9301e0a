use Rattle.std.proofs.Common.{◌≡◌, ◌≤◌}
use Rattle.pardo_job.specs.Ends.{gone_in}
use Rattle.exercise_judge.specs.Tries.{gone_count}
use Rattle.exercise_judge.proofs.tried.gone_count.Given as goal

-- the processors so far are counted
abbrev pub invariant-loop-processor : goal.invariant-loop-processor
invariant-loop-processor l = (l.count ≤ l.processor)
    × (l.count ≡ gone_count l.processor (gone_in l.lines.gone.items))
