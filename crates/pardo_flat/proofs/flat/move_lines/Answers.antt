use Rattle.std.proofs.Common.{ap}
use Rattle.std.specs.Prelude.{slice_index, slice_index_or}
use Rattle.pardo_program.specs.declared.statement.Statement.{Statement}
use Rattle.pardo_flat.specs.Inner.Flats.{moved_line}
use Rattle.pardo_flat.proofs.Flats.{moved_more}
use Rattle.pardo_flat.proofs.flat.move_lines.Goals as goal

pub loop-line-preserved : goal.loop-line-preserved
loop-line-preserved c =
    moved_more (moved_line (slice_index c.args.firsts.now)) c.args.lines.now c.loop-line.lines
    c.loop-line.line-index c.line-item.result _ c.loop-line-test.true c.loop-line.invariant
    (ap (λ (s : Statement). record
    (slice_index_or c.loop-line.lines c.loop-line.line-index c.line-item.result) { statement = s })
    c.move_statement.ensures)
