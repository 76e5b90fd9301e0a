use Rattle.std.proofs.Common.{◌∙◌, ◌<◌, ℕ, List, All, ap, sym, subst}
use Rattle.std.specs.List.{flat_map}
use Rattle.naming.specs.CellLists.{cells_from}
use Rattle.naming.proofs.Cells.{all_below}
use Rattle.naming.proofs.cell_list.cells_in.Goals as goal

pub returns-clause-cells : goal.returns-clause-cells
returns-clause-cells c = (
  c.in_ok-named.named.items,
  c.in_ok-named.ensures.named,
  c.in_ok-all_of.ensures ∙ ap (flat_map cells_from) c.as_slice.ensures.value,
)

pub returns-clause-within : goal.returns-clause-within
returns-clause-within c =
    let all = c.in_ok-all_of.ensures ∙ ap (flat_map cells_from) c.as_slice.ensures.value in
    let job = c.args.spelled.now.job in
    subst (λ (cells : List ℕ). All (λ cell. cell < job.cells) cells) (sym all)
    (all_below job.cells c.in_ok-named.named.items c.in_ok-named.ensures.within)
