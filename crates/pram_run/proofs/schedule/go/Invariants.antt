use Rattle.std.proofs.Common.{◌++◌, replicate}
use Rattle.pram_world.specs.declared.event.Event.TheVariants.{Go}
use Rattle.pram_run.specs.Inner.Progress.{MakesProgress}
use Rattle.pram_run.proofs.schedule.go.Given as goal

abbrev pub invariant-loop : goal.invariant-loop
invariant-loop l = MakesProgress l.initial.world l.initial.trace l.world l.trace
    (λ job of events. events ++ replicate l.counter (Go l.worker))
