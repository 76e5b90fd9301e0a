use Rattle.std.proofs.Common.{◌≡◌, ◌∙◌, ◌≤◌, List, ap, subst}
use Rattle.std.specs.Prelude.{MatchOption}
use Rattle.pardo_program.specs.Program.{ArrayData}
use Rattle.naming.specs.CellLists.{AreOfArray}
use Rattle.naming.specs.Names.{NamingData}
use Rattle.naming.specs.declared.places.Stretch.{Stretch}
use Rattle.naming.proofs.names.Naming.array_at.Goals as goal

pub returns : goal.returns
returns c =
    let same : c.arrays.result.now ≡ c.args.self.now.program.arrays =
    c.arrays.ensures ∙ ap (λ (n : NamingData). n.program.arrays) c.self.view_is in
    subst (λ (arrays : List ArrayData). MatchOption c.array_at.result
    ((cells : Stretch) → cells.end ≤ c.args.count → ¬ AreOfArray arrays c.args.name.now cells)
    (λ cells. (cells.end ≤ c.args.count) × AreOfArray arrays c.args.name.now cells)) same
    c.array_at.ensures
