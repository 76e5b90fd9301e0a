use Rattle.stop_plan.specs.Schedule.{after_turns}
use Rattle.pram_run.specs.Inner.Progress.{MakesProgress}
use Rattle.pram_run.specs.Replays.{still_runs, world_events}
use Rattle.pram_run.proofs.schedule.make_round.Given as goal

abbrev pub invariant-loop-worker : goal.invariant-loop-worker
invariant-loop-worker l = MakesProgress l.initial.world l.initial.trace l.world l.trace
    (λ job of events. after_turns world_events (still_runs job of) 0 l.worker events)
