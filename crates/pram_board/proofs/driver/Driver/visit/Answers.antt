use Rattle.pram_board.proofs.Working.{led_more}
use Rattle.pram_board.proofs.driver.Driver.visit.Goals as goal

pub returns-in-Enters-clause-led : goal.returns-in-Enters-clause-led
returns-in-Enters-clause-led g c = rw c.node.ensures
    (led_more _ _ _ _ _ _ _ c.in-Enters.ensures.led.went c.block.ensures.led)
