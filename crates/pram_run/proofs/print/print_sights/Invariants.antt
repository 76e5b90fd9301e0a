use Rattle.std.proofs.Common.{◌≡◌, ◌≤◌, ◌-◌, false, length, take}
use Rattle.std.specs.Io.KnownBytes.{Appends}
use Rattle.pram_run.specs.Printed.{sights_text}
use Rattle.pram_run.proofs.print.print_sights.Given as goal

-- the sights so far are printed
abbrev pub invariant-loop-done : goal.invariant-loop-done
invariant-loop-done g l = record {
  unfailed : g.W.Sink.has_failed l.sink ≡ false;
  within : l.done ≤ length l.sights;
  put : Appends (g.W.Sink.taken l.fn.sink)
      (g.W.Sink.taken l.sink) (sights_text (g.C.CellNames.words l.names) (take l.done l.sights));
}

abbrev pub decreases-loop-done : goal.decreases-loop-done
decreases-loop-done g l = length l.sights - l.done
