use Rattle.std.proofs.Common.{◌≡◌, ◌≤◌, ◌-◌, false, length, take}
use Rattle.std.specs.Io.KnownBytes.{Appends}
use Rattle.pram_run.specs.Printed.{trace_text}
use Rattle.pram_run.proofs.print.print_trace.Given as goal

-- the rows so far are printed
abbrev pub invariant-loop-done : goal.invariant-loop-done
invariant-loop-done g l = record {
  unfailed : g.W.Sink.has_failed l.sink ≡ false;
  within : l.done ≤ length l.rows;
  put : Appends (g.W.Sink.taken l.fn.sink)
      (g.W.Sink.taken l.sink) (trace_text (take l.done l.rows));
}

abbrev pub decreases-loop-done : goal.decreases-loop-done
decreases-loop-done g l = length l.rows - l.done
