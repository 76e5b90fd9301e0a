use Rattle.pram_board.proofs.driver.Driver.second_tasks.Goals as goal

pub plain_stores-requires-clause-stores : goal.plain_stores-requires-clause-stores
plain_stores-requires-clause-stores g c = c.stores_plainly.ensures c.if-stores_plainly.true
