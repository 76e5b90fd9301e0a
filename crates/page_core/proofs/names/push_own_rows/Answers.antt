use Rattle.page_core.specs.Programs.{own_row}
use Rattle.page_core.proofs.Telling.{numbered_more}
use Rattle.page_core.proofs.names.push_own_rows.Goals as goal

pub loop-which-preserved : goal.loop-which-preserved
loop-which-preserved c =
    numbered_more (own_row c.args.program.now c.args.loops) c.loop-which.which c.own_row.result
    c.args.rows.now.items c.loop-which.rows.items c.push.new.self.items c.own_row.ensures
    c.loop-which.invariant c.in_ok-push.ensures.items
