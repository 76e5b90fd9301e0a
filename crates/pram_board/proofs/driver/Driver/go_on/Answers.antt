use Rattle.pram_board.proofs.Working.{goes_any, goes_free}
use Rattle.pram_board.proofs.driver.Driver.go_on.Goals as goal

pub returns-then-limited-clause-goes : goal.returns-then-limited-clause-goes
returns-then-limited-clause-goes g c = goes_any _ _ _ _ _ c.go_one.ensures.goes

pub returns-in-Some-clause-goes : goal.returns-in-Some-clause-goes
returns-in-Some-clause-goes g c = goes_free _ _ _ _ _ c.if-limited.false c.go_through.ensures.goes

pub returns-in-None-clause-goes : goal.returns-in-None-clause-goes
returns-in-None-clause-goes g c = goes_any _ _ _ _ _ c.go_one-in-None.ensures.goes
