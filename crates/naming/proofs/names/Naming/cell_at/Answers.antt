use Rattle.std.proofs.Common.{◌≡◌, ◌∙◌, ◌<◌, ℕ, List, ap, subst}
use Rattle.std.specs.Prelude.{IfOk, MatchOption}
use Rattle.pardo_program.specs.Program.{ArrayData}
use Rattle.naming.specs.Inner.Places.{IsPlaceText}
use Rattle.naming.specs.Names.{NamingData}
use Rattle.naming.proofs.names.Naming.cell_at.Goals as goal

pub returns : goal.returns
returns c =
    let same : c.arrays.result.now ≡ c.args.self.now.program.arrays =
    c.arrays.ensures ∙ ap (λ (n : NamingData). n.program.arrays) c.self.view_is in
    subst (λ (arrays : List ArrayData). IfOk c.cell_at.result (λ found. MatchOption found
    ((cell : ℕ) → cell < c.args.count → ¬ IsPlaceText arrays c.args.place.now cell)
    (λ cell. (cell < c.args.count) × IsPlaceText arrays c.args.place.now cell))) same
    c.cell_at.ensures
