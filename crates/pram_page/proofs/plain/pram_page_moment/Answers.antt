use Rattle.std.proofs.Common.{inr}
use Rattle.pram_page.proofs.plain.pram_page_moment.Goals as goal

pub returns-in-Err-clause-state : goal.returns-in-Err-clause-state
returns-in-Err-clause-state c =
    (c.in-Err.finding, inr c.in-Err.ensures.none, c.tell-in-Err.ensures)

pub returns-in-Err-clause-asked : goal.returns-in-Err-clause-asked
returns-in-Err-clause-asked c =
    (c.in-Err.finding, inr c.in-Err.ensures.none, c.tell-in-Err-2.ensures)
