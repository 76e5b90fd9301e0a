use Rattle.std.proofs.Common.{◌≡◌, ℕ, ◌<◌, ap, arith, length, sym}
use Rattle.pram_machine.specs.Machine.{halted}
use Rattle.pardo_answers.specs.Traces.{running_counter}
use Rattle.pardo_answers.proofs.Standing.{found_here, standing_here}
use Rattle.pardo_answers.proofs.tracer.first_standing.Goals as goal

pub returns-then-at-code : goal.returns-then-at-code
returns-then-at-code c =
    let job = c.args.moment.now.job.now in
    let state = c.args.moment.now.state.now in
    let i = c.loop-processor.processor in
    let at = c.counter_in-at.result in
    let same : length c.code.result.now ≡ halted job = ap length c.code.ensures.value in
    let low : at < halted job = omega (arith, same, c.if-at-code.true) in
    let within : i < job.procs = omega arith in
    sym (found_here (running_counter job state) i job.procs at within c.loop-processor.invariant
    (standing_here job state i at c.counter_in-at.ensures low))
