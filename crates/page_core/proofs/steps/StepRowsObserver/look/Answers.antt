use Rattle.std.proofs.Common.{arith, ◌+◌}
use Rattle.page_core.proofs.Noting.{rows_more}
use Rattle.page_core.proofs.steps.StepRowsObserver.look.Goals as goal

pub returns : goal.returns
returns g c =
    let sight = c.args.sight.now in
    let rows = c.args.self.now.rows in
    rows_more sight.job.now g.B.Begin.from sight.made sight.times sight.state.now rows.items
    c.requires.before c.requires.sight.repeats c.resize.result c.row-row.result
    (c.len.result + sight.times) rows.len c.resize.new.self.items c.row-row.ensures
    (omega (arith, c.len.ensures, rows.ok)) (omega (arith, rows.ok)) c.resize.ensures.items
