use Rattle.std.proofs.Common.{ap, sym, ◌∙◌}
use Rattle.std.specs.Prelude.{Some}
use Rattle.kaolinsilk_c.proofs.Passing.{came_back}
use Rattle.kaolinsilk_c.proofs.boards.ks_back.Goals as goal

pub returns : goal.returns
returns c =
    came_back _ _ c.deref_mut.result.now c.back-status.new.member c.back-status.result c.requires
    (c.take-member.ensures.member ∙ ap (λ m. Some m) (sym c.deref_mut.ensures.value))
    c.of.ensures c.back-status.ensures
