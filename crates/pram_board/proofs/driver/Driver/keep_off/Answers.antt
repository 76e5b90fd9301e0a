use Rattle.pram_board.specs.Inner.Plays.{driving, post_task}
use Rattle.pram_board.proofs.Roaming.{looked_none}
use Rattle.pram_board.proofs.driver.Driver.keep_off.Goals as goal

pub returns-else-leaves-clause-looked : goal.returns-else-leaves-clause-looked
returns-else-leaves-clause-looked g c =
    looked_none (post_task c.args.post.now) (driving c.args.self.now) c.args.patience.now
