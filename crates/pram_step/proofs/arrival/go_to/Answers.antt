use Rattle.std.proofs.Common.{◌≡◌, ◌+◌, ◌-◌, subst, arith}
use Rattle.pram_step.specs.Runs.{IsReached, IsStateAfter}
use Rattle.pram_step.specs.Inner.Courses.{GoesTo}
use Rattle.pram_step.proofs.arrival.go_to.Goals as goal

pub returns-in-Settled : goal.returns-in-Settled
returns-in-Settled c =
    let job = c.args.job.now in
    let made = c.min.result in
    let left : made + (c.args.steps - made) ≡ c.args.steps = omega arith in
    subst (λ n. IsStateAfter job n c.make_steps.new.state) left
    (subst (GoesTo job made c.make_steps.new.state) c.in-Settled.is c.in_ok-fault.ensures.course
    (c.args.steps - made))

pub returns-then-most-steps : goal.returns-then-most-steps
returns-then-most-steps c =
    let job = c.args.job.now in
    let less = c.if-most-steps.true in
    let all : c.min.result ≡ c.args.most = omega arith in
    let after : IsStateAfter job c.min.result c.make_steps.new.state =
    subst (GoesTo job c.min.result c.make_steps.new.state) c.in-Made.is c.in_ok-fault.ensures.course in
    (less, subst (IsReached job) all after.reached)

pub returns-in-Disputed : goal.returns-in-Disputed
returns-in-Disputed c =
    let found = subst (GoesTo c.args.job.now c.min.result c.make_steps.new.state) c.in-Disputed.is
    c.in_ok-fault.ensures.course in (found.0, let low = found.1 in omega arith)
