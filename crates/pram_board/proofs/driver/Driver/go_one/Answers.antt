use Rattle.std.proofs.Common.{refl}
use Rattle.pram_board.specs.Inner.Plays.{driving}
use Rattle.pram_board.proofs.Working.{goes_once}
use Rattle.pram_board.proofs.driver.Driver.go_one.Goals as goal

pub returns-clause-goes : goal.returns-clause-goes
returns-clause-goes g c =
    goes_once (driving c.args.self.now) _ _ _ _ (c.tick.ensures.tick.step c.requires.going)
    c.tick.ensures.works refl refl c.requires.room c.requires.few
