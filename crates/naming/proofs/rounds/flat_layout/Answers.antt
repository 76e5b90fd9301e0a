use Rattle.std.proofs.Common.{◌∙◌, ap, subst, sym}
use Rattle.std.proofs.lemmas.Result.{IfOk-weaker}
use Rattle.pardo_flat.specs.Inner.Flats.{DoAllFit, IsFlattened}
use Rattle.pardo_flat.specs.Layouts.{program_layout}
use Rattle.pardo_flat.proofs.FlatWhole.{whole}
use Rattle.naming.proofs.rounds.flat_layout.Goals as goal

pub returns-in-Same : goal.returns-in-Same
returns-in-Same c =
    let program = c.args.program.now in
    let fit : DoAllFit program.lines =
    subst (IsFlattened program) c.in-Same.is c.in_ok-flatten.ensures in
    IfOk-weaker c.of.result _ _
    (λ layout is. is ∙ ap program_layout (sym (whole program c.requires.0 fit))) c.of.ensures
