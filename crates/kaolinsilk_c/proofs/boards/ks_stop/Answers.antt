use Rattle.std.proofs.Common.{ap, sym, ◌∙◌}
use Rattle.std.specs.Prelude.{Some}
use Rattle.kaolinsilk_c.proofs.Passing.{told_stop}
use Rattle.kaolinsilk_c.proofs.boards.ks_stop.Goals as goal

pub returns : goal.returns
returns c =
    told_stop _ _ c.deref_mut.result.now c.stop-status.new.member _ _ c.stop-status.result
    (c.take-member.ensures.member ∙ ap (λ m. Some m) (sym c.deref_mut.ensures.value))
    c.of.ensures c.stop-status.ensures.stops c.stop-status.ensures.none c.stop-status.ensures.ends
    c.stop-status.ensures.kept c.stop-status.ensures.goes_on
