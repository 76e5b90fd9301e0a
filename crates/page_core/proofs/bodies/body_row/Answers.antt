use Rattle.std.proofs.Common.{sym, ◌∙◌}
use Rattle.page_core.proofs.Fitting.{fits}
use Rattle.page_core.proofs.bodies.body_row.Goals as goal

pub row_of-requires : goal.row_of-requires
row_of-requires c = fits c.args.world.now c.args.b c.in-Some.standing c.facts.ensures.interleaved
    (sym c.standing.ensures ∙ c.in-Some.is)
