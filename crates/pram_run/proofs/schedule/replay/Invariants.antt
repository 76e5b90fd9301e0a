use Rattle.pram_run.specs.Inner.Underway.{HasCome, parts}
use Rattle.pram_run.proofs.schedule.replay.Given as goal

abbrev pub invariant-loop-trace : goal.invariant-loop-trace
invariant-loop-trace l = HasCome l.job l.plan l.replaying l.trace

abbrev pub decreases-loop-trace : goal.decreases-loop-trace
decreases-loop-trace l = parts l.job l.replaying
