use Rattle.std.proofs.Common.{rules}
use Rattle.page_core.specs.Answers.{read_in}
use Rattle.page_core.proofs.Buffers.{kept_set, written}
use Rattle.page_core.proofs.reads.write_reads.Goals as goal

pub loop-cell-preserved : goal.loop-cell-preserved
loop-cell-preserved c = record {
  read = written (read_in c.args.world.now) c.loop-cell.rows c.loop-cell.cell c.read.result
      (search rules) c.loop-cell.invariant.read c.read.ensures;
  behind = kept_set c.args.world.now.job.cells c.args.rows.now c.loop-cell.rows c.loop-cell.cell
      c.read.result (search rules) c.loop-cell.invariant.behind;
}
