use Rattle.std.proofs.Common.{◌≡◌, ◌++◌, List, sym, subst, arith}
use Rattle.stop_plan.specs.Schedule.{after_turns}
use Rattle.pram_world.specs.declared.event.Event.{Event}
use Rattle.pram_run.specs.Inner.Progress.{IsAfterEvents}
use Rattle.pram_run.specs.Replays.{still_runs, world_events}
use Rattle.pram_run.proofs.After.{turns_next}
use Rattle.pram_run.proofs.schedule.make_round.Goals as goal

pub loop-worker-init : goal.loop-worker-init
unfolding after_turns
loop-worker-init c = λ front job of es is. is

pub loop-worker-preserved : goal.loop-worker-preserved
loop-worker-preserved c = λ front job of es is.
    subst (λ (xs : List Event).
    IsAfterEvents job of xs c.take_turn.new.world (front ++ c.take_turn.new.trace))
    (sym (turns_next job of c.loop-worker.worker es))
    (c.in_ok-take_turn.ensures front job of (after_turns world_events
    (still_runs job of) 0 c.loop-worker.worker es) (c.loop-worker.invariant front job of es is))

pub returns : goal.returns
returns c = λ front job of es is.
    let all : c.loop-worker.worker ≡ c.args.workers = omega (arith, c.loop-worker-test.false) in
    subst (λ n. IsAfterEvents job of (after_turns world_events (still_runs job of) 0 n es)
    c.loop-worker.world (front ++ c.loop-worker.trace)) all
    (c.loop-worker.invariant front job of es is)
