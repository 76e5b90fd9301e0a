use Rattle.std.proofs.Common.{ap, sym, ◌∙◌}
use Rattle.std.specs.Prelude.{Some}
use Rattle.library_boards.specs.Members.{by_limit}
use Rattle.kaolinsilk_c.proofs.Passing.{worked}
use Rattle.kaolinsilk_c.proofs.boards.ks_work.Goals as goal

pub returns : goal.returns
returns c =
    worked _ _ c.deref_mut.result.now c.work-status.new.member (by_limit c.args.limit)
    c.work-status.result
    c.requires
    (c.take-member.ensures.member ∙ ap (λ m. Some m) (sym c.deref_mut.ensures.value))
    c.of.ensures c.work-status.ensures
