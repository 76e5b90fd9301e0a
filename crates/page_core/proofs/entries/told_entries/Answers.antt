use Rattle.exercise_text.specs.Entries.{EntryData}
use Rattle.page_core.specs.Entries.{entry_row}
use Rattle.page_core.proofs.ExerciseTelling.{bytes_more, rows_more}
use Rattle.page_core.proofs.entries.told_entries.Goals as goal

pub loop-entry-preserved : goal.loop-entry-preserved
loop-entry-preserved c = (
  bytes_more (λ (e : EntryData). e.text) c.args.entries.now c.loop-entry.entry-index
      c.entry-item.result c.text.result.now c.loop-entry.bytes.items
      c.extend_from_slice.new.self.items c.loop-entry-test.true c.entry-item.is c.text.ensures
      c.loop-entry.invariant.0 c.in_ok-extend_from_slice.ensures.items,
  rows_more entry_row c.args.entries.now c.loop-entry.entry-index c.entry-item.result
      c.entry_row.result c.loop-entry.rows.items c.push.new.self.items c.loop-entry-test.true
      c.entry-item.is c.entry_row.ensures c.loop-entry.invariant.1 c.in_ok-push.ensures.items,
)
