use Rattle.walk_memory.proofs.asked.turn_by.Goals as goal

pub returns-clause-shape : goal.returns-clause-shape
returns-clause-shape c =
    rw (c.job.ensures.value, c.processor.ensures.value) at c.turn_of.ensures.shape
