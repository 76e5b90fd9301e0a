use Rattle.std.proofs.Common.{◌≡◌, ℕ, ◌<◌, get_or, length}
use Rattle.pardo_job.specs.Ends.{gone_in}
use Rattle.pardo_job.specs.Leaving.{GoneIn}
use Rattle.pardo_job.proofs.run.gone_lines.Given as goal

-- the processors so far are looked at
abbrev pub invariant-loop-processor : goal.invariant-loop-processor
invariant-loop-processor l = record {
  each : length l.gone.items ≡ l.processor;
  noted : (i : ℕ) → i < l.processor → GoneIn l.job (λ k. get_or l.numbers k 0) l.rest.steps i
      (gone_in l.gone.items i);
}
