use Rattle.std.proofs.Common.{◌≡◌, ◌++◌, replicate, false, sym, subst, ◌∙◌, arith}
use Rattle.pram_world.specs.declared.event.Event.TheVariants.{Go}
use Rattle.pram_world.specs.Worlds.{going}
use Rattle.pram_run.specs.Inner.Progress.{IsAfterEvents}
use Rattle.pram_run.proofs.After.{after_all, after_next, after_none}
use Rattle.pram_run.proofs.schedule.go.Goals as goal

pub returns-then-not-is_going : goal.returns-then-not-is_going
returns-then-not-is_going c = λ front job workers es is.
    let still : going c.loop.world c.args.worker ≡ false =
    sym c.is_going.ensures ∙ c.if-not-is_going.true in
    after_all job workers es c.loop.world (front ++ c.loop.trace) c.args.worker c.loop.counter
    c.args.ticks (omega arith) (c.loop.invariant front job workers es is) still

pub loop-init : goal.loop-init
loop-init c = λ front job workers es is.
    after_none job workers es c.args.world.now (front ++ c.args.trace.now) is

pub loop-preserved : goal.loop-preserved
loop-preserved c = λ front job workers es is.
    after_next job workers es c.step.new.world (front ++ c.step.new.trace) c.args.worker
    c.loop.counter (c.in_ok-step.ensures front job workers
    (es ++ replicate c.loop.counter (Go c.args.worker)) (c.loop.invariant front job workers es is))

pub returns : goal.returns
returns c = λ front job workers es is.
    let all : c.loop.counter ≡ c.args.ticks = omega (arith, c.loop-test.false) in
    subst (λ n. IsAfterEvents job workers (es ++ replicate n (Go c.args.worker)) c.loop.world
    (front ++ c.loop.trace)) all (c.loop.invariant front job workers es is)
