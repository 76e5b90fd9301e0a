use Rattle.std.proofs.Common.{arith}
use Rattle.page_core.proofs.Playing.{board_first}
use Rattle.page_core.proofs.board.open.Goals as goal

pub returns-in-Ok-new-clause-opened : goal.returns-in-Ok-new-clause-opened
returns-in-Ok-new-clause-opened c = board_first c.args.text.now c.args.workers c.in-Ok.job
    c.in-Ok-new.world c.in-Ok.ensures.spells (omega arith) (omega arith) c.in-Ok-new.ensures
