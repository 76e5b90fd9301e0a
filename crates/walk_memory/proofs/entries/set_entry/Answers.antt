use Rattle.std.proofs.Common.{ℕ, List, [], slice_index, ap, ◌∙◌}
use Rattle.std.specs.Prelude.{slice_set}
use Rattle.std.proofs.lemmas.List.{map-set}
use Rattle.std.proofs.Math.Seq.{map-set_same}
use Rattle.walk_memory.specs.Lanes.{entries}
use Rattle.walk_memory.proofs.entries.set_entry.Goals as goal

pub returns-clause-same : goal.returns-clause-same
returns-clause-same c =
    let rows = c.args.rows.now in
    map-set (λ (row : List ℕ). slice_index row c.args.k) rows c.args.r c.set_in.new.row
    ∙ ap (λ (v : ℕ). slice_set (entries rows c.args.k) c.args.r v) c.set_in.ensures.same

pub returns-clause-others : goal.returns-clause-others
returns-clause-others c = λ j other.
    map-set_same (λ (row : List ℕ). slice_index row j) c.args.rows.now c.args.r c.set_in.new.row []
    (c.set_in.ensures.others j other)
