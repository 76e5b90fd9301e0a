use Rattle.std.proofs.Common.{◌≡◌, None}
use Rattle.pardo_job.specs.Meaning.{first_below}
use Rattle.pardo_answers.specs.Traces.{running_counter}
use Rattle.pardo_answers.proofs.tracer.first_standing.Given as goal

-- none so far runs
abbrev pub invariant-loop-processor : goal.invariant-loop-processor
invariant-loop-processor l =
    first_below l.processor (running_counter l.moment.job.now l.moment.state.now) ≡ None
