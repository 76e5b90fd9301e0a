use Rattle.std.proofs.Common.{arith, ◌≡◌, ◌∙◌, ap, length, List, []}
use Rattle.std.proofs.lemmas.List.FromFn.{length-map-range_with_len}
use Rattle.page_core.specs.declared.requests.RequestRow.{RequestRow}
use Rattle.page_core.specs.Requests.{row_in}
use Rattle.page_core.proofs.Telling.{numbered_all, numbered_more}
use Rattle.page_core.proofs.requests.all_rows.Goals as goal

pub row-requires-clause-reached : goal.row-requires-clause-reached
row-requires-clause-reached c = c.requires

pub loop-processor-preserved : goal.loop-processor-preserved
loop-processor-preserved c = numbered_more (row_in c.args.job.now c.args.state.now)
    c.loop-processor.processor c.row.result [] c.loop-processor.rows.items _ c.row.ensures
    c.loop-processor.invariant c.in_ok-push.ensures.items

pub returns-clause-rows : goal.returns-clause-rows
returns-clause-rows c = λ i low. numbered_all (row_in c.args.job.now c.args.state.now)
    c.loop-processor.processor i c.loop-processor.rows.items c.loop-processor.invariant
    (omega arith)

pub returns-clause-each : goal.returns-clause-each
returns-clause-each c =
    let row = row_in c.args.job.now c.args.state.now in
    let n = c.loop-processor.processor in
    let all : n ≡ c.args.job.now.procs = omega arith in
    ap (λ (xs : List RequestRow). length xs) c.loop-processor.invariant
    ∙ length-map-range_with_len row 0 n ∙ all
