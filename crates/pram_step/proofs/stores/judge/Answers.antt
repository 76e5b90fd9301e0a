use Rattle.std.proofs.Common.{arith}
use Rattle.pram_step.proofs.Marking.{judged_first, judged_later}
use Rattle.pram_step.proofs.stores.judge.Goals as goal

-- the first store to the cell
pub returns-in_default : goal.returns-in_default
returns-in_default c = λ requests puts are.
    judged_first c.args.job.now requests c.args.asked.now c.args.k c.requires.cell puts
    c.args.marks.now c.args.found are
    (c.in_default.ensures c.args.job.now.cells _ c.requires.cell are.marked) (omega arith)

-- a later one
pub returns : goal.returns
returns c = λ requests puts are.
    judged_later c.args.job.now requests c.args.asked.now c.args.k c.requires.cell puts
    c.args.marks.now c.args.found are c.in-Some.first
    (c.in-Some.ensures c.args.job.now.cells _ c.requires.cell are.marked)
    c.dispute_of.result c.dispute_of.ensures
