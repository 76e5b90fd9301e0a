use Rattle.std.proofs.Common.{◌≡◌, ◌++◌, take}
use Rattle.std.specs.Prelude.{codes}
use Rattle.std.specs.List.{flat_map}
use Rattle.csv.specs.Writing.{writer_pending, writer_under}
use Rattle.pram_streams.specs.Records.{IsBetweenRecords}
use Rattle.naming.specs.LineRecords.{numbered_line, line_record}
use Rattle.naming.proofs.line_records.records_of.Given as goal

-- the records so far are written
abbrev pub invariant-loop-cost : goal.invariant-loop-cost
invariant-loop-cost l = record {
  between : IsBetweenRecords l.writer;
  text : (writer_under l.writer).items ++ writer_pending l.writer
      ≡ codes "line,times,time,operations,most,text\n"
      ++ flat_map (λ cost. line_record cost (numbered_line l.text cost.line))
      (take l.cost-index l.costs);
  same : l.place.text.now ≡ l.text;
}
