use Rattle.pram_step.proofs.Marking.{PutsNone_by_mark, PutsNone_by_store, PutsFirst_by_store}
use Rattle.pram_step.proofs.stores.first_to.Goals as goal

pub returns-then-mark-k : goal.returns-then-mark-k
returns-then-mark-k c = λ cells requests low are.
    PutsNone_by_mark cells requests c.args.asked.now c.args.marks.now c.args.k c.args.cell
    low are c.if-mark-k.true

pub returns-then-first-cell : goal.returns-then-first-cell
returns-then-first-cell c = λ cells requests low are.
    PutsFirst_by_store cells requests c.args.asked.now c.args.marks.now c.args.k c.args.cell
    low are c.if-mark-k.false c.if-first-cell.true

pub returns-else-first-cell : goal.returns-else-first-cell
returns-else-first-cell c = λ cells requests low are.
    PutsNone_by_store cells requests c.args.asked.now c.args.marks.now c.args.k c.args.cell
    low are c.if-first-cell.false
