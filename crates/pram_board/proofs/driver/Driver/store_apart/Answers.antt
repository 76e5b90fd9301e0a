use Rattle.pram_board.proofs.driver.Driver.store_apart.Goals as goal

pub store_by-last-requires-clause-stores : goal.store_by-last-requires-clause-stores
store_by-last-requires-clause-stores g c =
    rw (c.again.ensures, c.stores-stores.ensures.memory) c.stores-stores.ensures.held
