use Rattle.std.proofs.Common.{ap, sym, ◌∙◌}
use Rattle.std.specs.Prelude.{Some}
use Rattle.kaolinsilk_c.proofs.Passing.{told_memory}
use Rattle.kaolinsilk_c.proofs.boards.ks_memory.Goals as goal

pub returns : goal.returns
returns c =
    told_memory _ _ c.deref_mut.result.now c.memory-status.new.member _ _ c.memory-status.result
    (c.take-member.ensures.member ∙ ap (λ m. Some m) (sym c.deref_mut.ensures.value))
    c.of.ensures c.memory-status.ensures.put c.memory-status.ensures.left
    c.memory-status.ensures.ends c.memory-status.ensures.kept c.memory-status.ensures.goes_on
