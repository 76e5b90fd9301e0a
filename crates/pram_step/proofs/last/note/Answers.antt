use Rattle.std.proofs.Common.{◌≡◌, ℕ, ◌+◌, ◌<◌, List, get_or, length, ap, sym, subst, ◌∙◌, arith}
use Rattle.pram_job.specs.declared.instr.Instr.{Instr}
use Rattle.pram_machine.specs.Machine.{counter, halted, IsStopped}
use Rattle.pram_step.specs.declared.last.LastRow.{LastRow}
use Rattle.pram_step.specs.Last.{last_row}
use Rattle.pram_step.proofs.Lasts.{AreNoted, all_noted, none_noted, noted_within, ran_last}
use Rattle.pram_step.proofs.Lasts.{row_noted, stopped_last, stopped_noted}
use Rattle.pram_step.proofs.Passing.{listed_below}
use Rattle.pram_step.proofs.last.note.Goals as goal
use Rattle.pram_step.proofs.last.note.Goals.{then-index-code, else-index-code}

pub loop-processor-init : goal.loop-processor-init
loop-processor-init c = none_noted c.args.sight.now.job.now c.args.sight.now.made _
    c.args.sight.now.running.now c.args.rows.now c.requires.last

pub bounds-rows-processor : goal.bounds-rows-processor
bounds-rows-processor c =
    let job = c.args.sight.now.job.now in
    let t = c.args.sight.now.made in
    let running = c.args.sight.now.running.now in
    let k = c.loop-processor.processor-index in
    noted_within job t (t + c.args.sight.now.times) running c.loop-processor.rows k
    c.loop-processor.invariant (listed_below job c.args.sight.now.state.now running
    c.requires.sight.running k (omega arith))

pub loop-processor-preserved : goal.loop-processor-preserved
loop-processor-preserved c =
    let job = c.args.sight.now.job.now in
    let s = c.args.sight.now.state.now in
    let t = c.args.sight.now.made in
    let times = c.args.sight.now.times in
    let running = c.args.sight.now.running.now in
    let rows = c.loop-processor.rows in
    let k = c.loop-processor.processor-index in
    let p : ℕ = get_or running k 0 in
    let low : p < job.procs = listed_below job s running c.requires.sight.running k (omega arith) in
    let code = ap (λ (xs : List Instr). length xs) c.code.ensures.value in
    let at : c.counter-index.result ≡ counter job s p = c.counter-index.ensures in
    elim c.if-index-code.branch [
      | then-index-code w ↦
          let test = w.if-index-code.true in
          let runs : counter job s p < halted job = omega arith in
          let row : LastRow = record { step = t + times; index = c.counter-index.result } in
          let is : row ≡ last_row job (t + times) p =
          (λ i. record { step = t + times; index = at i })
          ∙ sym (ran_last job t p s times c.requires.sight.some c.requires.sight.repeats runs) in
          subst (AreNoted job t (t + times) running (k + 1)) (sym w.rows-is)
          (row_noted job t (t + times) running rows k c.loop-processor.invariant low row is)
      | else-index-code w ↦
          let test = w.if-index-code.false in
          let stopped : IsStopped job s p = omega arith in
          subst (AreNoted job t (t + times) running (k + 1)) (sym w.rows-is)
          (stopped_noted job t (t + times) running rows k c.loop-processor.invariant low
          (stopped_last job t p s times c.requires.sight.repeats stopped))
    ]

pub returns : goal.returns
returns c =
    let job = c.args.sight.now.job.now in
    let s = c.args.sight.now.state.now in
    let t = c.args.sight.now.made in
    let times = c.args.sight.now.times in
    all_noted job t (t + times) c.args.sight.now.running.now c.loop-processor.rows s
    c.loop-processor.processor-index (omega arith) c.loop-processor.invariant
    c.requires.sight.running
    (λ i stopped. stopped_last job t i s times c.requires.sight.repeats stopped)
