use Rattle.std.proofs.Common.{◌≡◌, ◌+◌, sym, subst, arith}
use Rattle.std.proofs.lemmas.Bool.{OnTrue_at}
use Rattle.pram_step.specs.Inner.Courses.{listed_processors}
use Rattle.pram_step.specs.Inner.Passes.{AllIdle}
use Rattle.pram_machine.specs.Instructions.{requests_in}
use Rattle.pram_step.specs.Running.{AreRunning}
use Rattle.pram_step.specs.Steps.{IsDispute}
use Rattle.pram_step.specs.Runs.{IsStateAfter}
use Rattle.pram_step.proofs.LawFixed.{disputed_there, next_after}
use Rattle.pram_step.proofs.LawStopped.{idle_later, idle_settles}
use Rattle.pram_step.proofs.pass.make_steps.Goals as goal

pub loop-made-preserved : goal.loop-made-preserved
loop-made-preserved g c =
    let job = c.args.job.now in
    let made = c.in_default.ensures.made.made in
    record {
      after = subst (IsStateAfter job (c.loop-made.made + 1)) (sym made.next)
          (next_after job c.loop-made.made c.loop-made.state c.loop-made.invariant.after
          made.agrees);
      running = subst (λ s. AreRunning job s
          (listed_processors
          (record { running = c.rest.new.self; stores = c.advance.new.room.stores })))
          c.places-in-loop-made.ensures c.rest.ensures.found;
      room = record { running = c.rest.ensures.room; stores = c.advance.ensures.room.stores };
      seen = c.in_ok-observe.ensures;
    }

pub returns-in-Err-clause-course : goal.returns-in-Err-clause-course
returns-in-Err-clause-course g c =
    let job = c.args.job.now in
    let before = c.loop-made.state in
    disputed_there job c.loop-made.made c.args.span.to before c.advance.new.self c.in_step.result
    c.loop-made.invariant.after (omega arith) c.in_step.ensures.step
    (subst (IsDispute job (requests_in job before)) (sym c.in_step.ensures.dispute)
    c.in-Err.ensures.dispute)
    c.in-Err.ensures.turns.counters

-- nothing changes any more
pub observe-requires-then-rest-clause-after : goal.observe-requires-then-rest-clause-after
observe-requires-then-rest-clause-after g c =
    let job = c.args.job.now in
    let made = c.in_default.ensures.made.made in
    subst (IsStateAfter job (c.loop-made.made + 1)) (sym made.next)
    (next_after job c.loop-made.made c.loop-made.state c.loop-made.invariant.after made.agrees)

pub observe-requires-then-rest-clause-repeats : goal.observe-requires-then-rest-clause-repeats
observe-requires-then-rest-clause-repeats g c = λ k low.
    let job = c.args.job.now in
    let made = c.in_default.ensures.made.made in
    sym (idle_later job (c.loop-made.made + 1) k c.advance.new.self
    (subst (IsStateAfter job (c.loop-made.made + 1)) (sym made.next)
    (next_after job c.loop-made.made c.loop-made.state c.loop-made.invariant.after made.agrees))
    (subst (AllIdle job) c.places-in-loop-made.ensures
    (OnTrue_at c.if-rest.true c.rest.ensures.idle))).state

pub returns-then-rest-clause-course : goal.returns-then-rest-clause-course
returns-then-rest-clause-course g c =
    let job = c.args.job.now in
    let made = c.in_default.ensures.made.made in
    idle_settles job (c.loop-made.made + 1) c.args.span.to c.advance.new.self (omega arith)
    (subst (IsStateAfter job (c.loop-made.made + 1)) (sym made.next)
    (next_after job c.loop-made.made c.loop-made.state c.loop-made.invariant.after made.agrees))
    (subst (AllIdle job) c.places-in-loop-made.ensures
    (OnTrue_at c.if-rest.true c.rest.ensures.idle))

-- nor after the last step
pub returns-then-rest-2-clause-course : goal.returns-then-rest-2-clause-course
returns-then-rest-2-clause-course g c =
    idle_settles c.args.job.now c.loop-made.made c.args.span.to c.loop-made.state (omega arith)
    c.loop-made.invariant.after
    (subst (AllIdle c.args.job.now) c.places-2.ensures
    (OnTrue_at c.if-rest-2.true c.rest-2.ensures.idle))

pub returns-else-rest-2-clause-course : goal.returns-else-rest-2-clause-course
returns-else-rest-2-clause-course g c =
    let over : c.loop-made.made ≡ c.args.span.to = omega arith in
    subst (λ n. IsStateAfter c.args.job.now n c.loop-made.state) over
    c.loop-made.invariant.after
