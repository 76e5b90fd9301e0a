use Rattle.std.proofs.Common.{ap, sym, ◌∙◌}
use Rattle.std.specs.Prelude.{Some}
use Rattle.kaolinsilk_c.proofs.Passing.{told_fault}
use Rattle.kaolinsilk_c.proofs.boards.ks_fault.Goals as goal

pub returns : goal.returns
returns c =
    told_fault _ _ c.deref_mut.result.now c.fault-status.new.member _ _ c.fault-status.result
    (c.take-member.ensures.member ∙ ap (λ m. Some m) (sym c.deref_mut.ensures.value))
    c.of.ensures c.fault-status.ensures.fault c.fault-status.ensures.none
    c.fault-status.ensures.ends c.fault-status.ensures.kept c.fault-status.ensures.goes_on
