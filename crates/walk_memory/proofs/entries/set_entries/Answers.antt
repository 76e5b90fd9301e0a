use Rattle.std.proofs.Common.{◌≡◌, ℕ, List, length, slice_index, ◌∙◌}
use Rattle.std.proofs.lemmas.List.{length-map}
use Rattle.walk_memory.specs.Lanes.{entries}
use Rattle.walk_memory.proofs.Lanes.{four_set}
use Rattle.walk_memory.proofs.entries.set_entries.Goals as goal

pub returns-clause-same : goal.returns-clause-same
returns-clause-same c =
    let rows = c.args.rows.now in
    let row = c.args.row.now in
    let k = c.args.k in
    let four : length (entries rows k) ≡ 4 =
    length-map rows (λ (r : List ℕ). slice_index r k) ∙ c.told-rows in
    rw (c.set_entry-4.ensures.same, c.set_entry-3.ensures.same, c.set_entry-2.ensures.same, c.set_entry.ensures.same)
    (four_set (entries rows k) row four c.told-row)
