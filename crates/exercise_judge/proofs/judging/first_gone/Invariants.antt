use Rattle.std.proofs.Common.{◌≡◌, ℕ, ◌<◌, None}
use Rattle.pardo_job.specs.Ends.{gone_in}
use Rattle.exercise_judge.proofs.judging.first_gone.Given as goal

-- the processors so far are there
abbrev pub invariant-loop-processor : goal.invariant-loop-processor
invariant-loop-processor l = (i : ℕ) → i < l.processor → gone_in l.lines.gone.items i ≡ None
