use Rattle.std.proofs.Common.{◌∙◌, ℕ, List, ap, drop}
use Rattle.std.proofs.lemmas.List.{drop-drop}
use Rattle.command_data.specs.CellLists.{parts_of}
use Rattle.command_data.proofs.cell_list.CellList.part.Goals as goal

-- one part less is left
pub loop-part-preserved : goal.loop-part-preserved
loop-part-preserved c =
    c.after_part-left.ensures ∙ ap (λ (ps : List (List ℕ)). drop 1 ps) c.loop-part.invariant
    ∙ drop-drop 1 c.loop-part._part (parts_of c.args.self.now.text.now)
