use Rattle.std.proofs.Common.{List, Some}
use Rattle.stop_plan.specs.Inner.Reading.{HasReadRecords, IsPlanReader, bytes_left}
use Rattle.stop_plan.specs.Records.{PlanRecord, records_of}
use Rattle.stop_plan.proofs.Faults.{Judged}
use Rattle.stop_plan.proofs.read.read_plan.Given as goal

abbrev pub invariant-loop-draft : goal.invariant-loop-draft
invariant-loop-draft l = record {
  setup : IsPlanReader l.reader;
  given : List PlanRecord;
  read : HasReadRecords (λ s. Some s.now) l.fn.text given l.reader;
  judged : Judged l.workers l.row (records_of l.fn.text) given l.draft;
}

abbrev pub decreases-loop-draft : goal.decreases-loop-draft
decreases-loop-draft l = bytes_left (λ s. Some s.now) l.reader
