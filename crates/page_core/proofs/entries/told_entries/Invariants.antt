use Rattle.std.proofs.Common.{◌≡◌, map, take}
use Rattle.std.specs.List.{flat_map}
use Rattle.exercise_text.specs.Entries.{EntryData}
use Rattle.page_core.specs.Entries.{entry_row}
use Rattle.page_core.proofs.entries.told_entries.Given as goal

abbrev pub invariant-loop-entry : goal.invariant-loop-entry
invariant-loop-entry l =
    (l.bytes.items ≡ flat_map (λ (e : EntryData). e.text) (take l.entry-index l.entries))
    × (l.rows.items ≡ map entry_row (take l.entry-index l.entries))
