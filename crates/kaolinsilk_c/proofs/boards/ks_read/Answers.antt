use Rattle.std.proofs.Common.{ap, sym, ◌∙◌}
use Rattle.std.specs.Prelude.{Some}
use Rattle.kaolinsilk_c.proofs.Passing.{told_reading}
use Rattle.kaolinsilk_c.proofs.boards.ks_read.Goals as goal

pub returns : goal.returns
returns c =
    told_reading _ _ c.deref_mut.result.now c.read-status.new.member c.args.cell
    c.read-status.result _ _
    (c.take-member.ensures.member ∙ ap (λ m. Some m) (sym c.deref_mut.ensures.value))
    c.of.ensures c.read-status.ensures.read c.read-status.ensures.none c.read-status.ensures.member
