use Rattle.std.proofs.Common.{arith, subst}
use Rattle.pram_step.specs.Arrivals.{IsArrival}
use Rattle.pram_rows.proofs.print.answer_after.Goals as goal

pub answer_from-requires : goal.answer_from-requires
answer_from-requires c =
    let span = c.args.span.now in
    subst (IsArrival span.job.now span.end span.end) c.in-Reached.is c.requires

pub returns-in-Disputed : goal.returns-in-Disputed
returns-in-Disputed c =
    let span = c.args.span.now in
    let stopped = subst (IsArrival span.job.now span.end span.end) c.in-Disputed.is c.requires in
    let step = stopped.1 in
    let within = span.within in
    record { first = stopped.0; within = omega (arith, step, within) }

pub unreachable-requires : goal.unreachable-requires
unreachable-requires c =
    let span = c.args.span.now in
    let far = subst (IsArrival span.job.now span.end span.end) c.in-TooFar.is c.requires in
    let more = far.0 in
    omega (arith, more)
