use Rattle.std.proofs.Common.{◌≡◌, ◌++◌, ◌+◌}
use Rattle.std.specs.List.{flat_map, range_with_len}
use Rattle.csv.specs.Writing.{writer_pending, writer_under}
use Rattle.pram_streams.specs.Records.{IsBetweenRecords}
use Rattle.pram_rows.specs.Rows.{row_line}
use Rattle.pram_rows.proofs.row.push_rows.Given as goal

-- the rows so far are written
abbrev pub invariant-loop-processor : goal.invariant-loop-processor
invariant-loop-processor g l = record {
  between : IsBetweenRecords l.writer;
  text : (writer_under l.writer).items ++ writer_pending l.writer ≡ l.fn.bytes.items
      ++ flat_map (row_line (g.N.RowNames.words l.names) l.moment.job.now l.moment.state.now
      (l.moment.made + 1)) (range_with_len 0 l.processor);
}
