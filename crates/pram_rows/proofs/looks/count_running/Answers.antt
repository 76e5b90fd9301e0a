use Rattle.std.proofs.Common.{◌∙◌, sym, arith}
use Rattle.pram_step.specs.Runs.{state_after}
use Rattle.pram_step.specs.Running.{is_running}
use Rattle.pram_rows.proofs.Counting.{count_few, count_more_no, count_more_yes}
use Rattle.pram_rows.proofs.looks.count_running.Goals as goal
use Rattle.pram_rows.proofs.looks.count_running.Goals.{then-is_running, else-is_running}

pub overflow_add-count : goal.overflow_add-count
overflow_add-count c =
    let job = c.args.standing.now.job.now in
    let few = count_few (is_running job (state_after job c.args.standing.now.steps))
    c.loop-processor.processor in
    let e = c.loop-processor.invariant in
    omega (arith, few, e)

pub loop-processor-preserved : goal.loop-processor-preserved
loop-processor-preserved c =
    let job = c.args.standing.now.job.now in
    let p = is_running job (state_after job c.args.standing.now.steps) in
    let n = c.loop-processor.processor in
    elim c.if-is_running.branch [
      | then-is_running w ↦
          let more = count_more_yes p n (sym c.is_running.ensures ∙ w.if-is_running.true) in
          let e = c.loop-processor.invariant in
          let is = w.count-is in
          omega (arith, more, e, is)
      | else-is_running w ↦
          let more = count_more_no p n (sym c.is_running.ensures ∙ w.if-is_running.false) in
          let e = c.loop-processor.invariant in
          let is = w.count-is in
          omega (arith, more, e, is)
    ]
