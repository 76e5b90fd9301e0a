use Rattle.std.proofs.Common.{◌≡◌, ◌-◌, false}
use Rattle.pram_step.specs.Runs.{IsStateAfter}
use Rattle.pram_rows.specs.Inner.Printing.{TakesBut}
use Rattle.pram_rows.specs.StepRows.{rows_after}
use Rattle.pram_rows.proofs.print.show_span.Given as goal

-- the rows so far are put, or stand in the bytes that are left
abbrev pub invariant-loop-made : goal.invariant-loop-made
invariant-loop-made g l = record {
  unfailed : g.W.Sink.has_failed l.sink ≡ false;
  after : IsStateAfter l.span.job.now l.made l.state;
  put : TakesBut (g.W.Sink.taken l.fn.sink) (g.W.Sink.taken l.sink) l.left.items
      (rows_after (g.R.Rows.rows l.rows) l.span.job.now l.span.first
      (l.made - l.span.first));
}
