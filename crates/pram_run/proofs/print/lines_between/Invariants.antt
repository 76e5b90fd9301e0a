use Rattle.std.proofs.Common.{◌≡◌, ◌++◌, take}
use Rattle.csv.specs.Writing.{writer_pending, writer_under}
use Rattle.pram_streams.specs.Records.{IsBetweenRecords}
use Rattle.pram_run.specs.Printed.{row_lines}
use Rattle.pram_run.proofs.print.lines_between.Given as goal

-- the lines so far are written
abbrev pub invariant-loop-index : goal.invariant-loop-index
invariant-loop-index l = record {
  between : IsBetweenRecords l.writer;
  text : row_lines l.before (take l.start l.rows)
      ++ ((writer_under l.writer).items ++ writer_pending l.writer)
      ≡ row_lines l.before (take l.index l.rows);
}
