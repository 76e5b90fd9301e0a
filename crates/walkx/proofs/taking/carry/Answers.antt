use Rattle.std.proofs.Common.{sym, ◌∙◌}
use Rattle.walkx.proofs.taking.carry.Goals as goal

pub carry_second-requires-clause-second : goal.carry_second-requires-clause-second
carry_second-requires-clause-second g c = sym c.kind.ensures.value ∙ c.in-Verify.is
