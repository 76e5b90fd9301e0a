use Rattle.std.proofs.Common.{ap, sym, ◌∙◌}
use Rattle.std.specs.Prelude.{Some}
use Rattle.kaolinsilk_c.proofs.Passing.{told_progress}
use Rattle.kaolinsilk_c.proofs.boards.ks_progress.Goals as goal

pub returns-clause-told : goal.returns-clause-told
returns-clause-told c =
    told_progress _ _ c.deref_mut.result.now c.progress.new.member c.progress.result
    (c.take-member.ensures.member ∙ ap (λ m. Some m) (sym c.deref_mut.ensures.value))
    c.of.ensures c.progress.ensures
