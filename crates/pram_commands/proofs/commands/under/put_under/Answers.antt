use Rattle.std.proofs.Common.{inl, inr}
use Rattle.pram_commands.proofs.Judged.{puts_as}
use Rattle.pram_commands.proofs.commands.under.put_under.Goals as goal

pub put_beyond-requires-clause-beyond : goal.put_beyond-requires-clause-beyond
put_beyond-requires-clause-beyond g c =
    c.in-Some.ensures c.args.read.now.0.job c.requires.costs.are_costs.cost

pub returns-in-Some : goal.returns-in-Some
returns-in-Some g c = puts_as _ _ _ _ (λ text given beyond. inr beyond) _ c.put_beyond.ensures

pub returns-in-None : goal.returns-in-None
returns-in-None g c =
    let job = c.args.read.now.0.job in
    let cost = c.requires.costs.are_costs.cost in
    puts_as _ _ _ _
    (λ text given comes. inl ((c.args.read.now.1.cost, cost, c.in-None.ensures job cost), comes))
    _ c.put_told.ensures
