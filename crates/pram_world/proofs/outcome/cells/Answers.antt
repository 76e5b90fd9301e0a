use Rattle.std.proofs.Common.{arith}
use Rattle.pram_world.proofs.Answering.{final_more}
use Rattle.pram_world.proofs.outcome.cells.Goals as goal

pub loop-cell-preserved : goal.loop-cell-preserved
loop-cell-preserved c =
    final_more c.args.job.now c.args.layout.now
    c.args.words.now _ _ c.loop-cell.cell _ c.requires.stands c.requires.clear c.requires.done
    (omega arith) c.loop-cell.invariant c.newest.ensures c.in_ok-push.ensures.items
