use Rattle.std.proofs.Common.{◌≡◌, false}
use Rattle.pram_run.specs.Inner.Underway.{HasPrintedRows, parts}
use Rattle.pram_run.proofs.schedule.replay_to.Given as goal

-- the rows that are no longer kept are printed
abbrev pub invariant-loop-kept : goal.invariant-loop-kept
invariant-loop-kept g l = record {
  unfailed : g.W.Sink.has_failed l.sink ≡ false;
  printed : HasPrintedRows l.job l.plan l.replaying l.kept l.printed (g.W.Sink.taken l.fn.sink)
      (g.W.Sink.taken l.sink);
}

abbrev pub decreases-loop-kept : goal.decreases-loop-kept
decreases-loop-kept g l = parts l.job l.replaying
