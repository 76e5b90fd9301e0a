use Rattle.std.proofs.Common.{◌≤◌, ◌<◌, sym, ap, ◌∙◌, inl, arith}
use Rattle.pram_job.specs.Job.{JobData}
use Rattle.pram_step.specs.declared.answer.RunAnswer.TheVariants.{Unfinished}
use Rattle.pram_run.proofs.Endings.{progress_heard, progress_looks, looked_more}
use Rattle.pram_run.proofs.Endings.{looked_same, last_shown}
use Rattle.pram_run.proofs.Endings.{conflict_told, final_told, unfinished_told}
use Rattle.pram_run.proofs.Endings.{conflict_exists, final_exists, sound_at}
use Rattle.pram_run.proofs.ending.answer.Goals as goal

pub fault-fault-requires-clause-knows : goal.fault-fault-requires-clause-knows
fault-fault-requires-clause-knows c = progress_heard _ _ _ _ c.progress-progress.ensures.progressed
    (sym c.is_some.ensures ∙ c.if-is_some.true)

pub returns-in_err-fault-clause-looked : goal.returns-in_err-fault-clause-looked
returns-in_err-fault-clause-looked c =
    looked_more c.args.seat.now c.progress-progress.new.seat c.fault-fault.new.seat
    (progress_looks _ _ _ _ c.progress-progress.ensures.progressed)
    (_, c.in_err-fault.ensures.refused.1)

pub returns-in_err-fault-clause-some : goal.returns-in_err-fault-clause-some
returns-in_err-fault-clause-some c =
    conflict_exists c.args.board.now.task c.args.seat.now c.progress-progress.new.seat
    c.fault-fault.new.seat c.progress-progress.result c.progress-progress.ensures.progressed
    (sym c.is_some.ensures ∙ c.if-is_some.true) (_, c.in_err-fault.ensures.refused.1)
    (sound_at c.args.board.now c.fault-fault.new.seat c.in_err-fault.ensures.later.desk c.facts.ensures)

pub returns-then-is_some-clause-some : goal.returns-then-is_some-clause-some
returns-then-is_some-clause-some c =
    conflict_exists c.args.board.now.task c.args.seat.now c.progress-progress.new.seat
    c.fault-fault.new.seat c.progress-progress.result c.progress-progress.ensures.progressed
    (sym c.is_some.ensures ∙ c.if-is_some.true) (_, c.in_ok-fault.ensures.loads)
    (sound_at c.args.board.now c.fault-fault.new.seat c.in_ok-fault.ensures.later.desk c.facts.ensures)

pub returns-then-progress-steps-clause-some : goal.returns-then-progress-steps-clause-some
returns-then-progress-steps-clause-some c =
    let low : c.progress-progress.result.step < c.args.board.now.task.job.steps =
    omega (arith, c.steps.ensures.value, ap (λ (j : JobData). j.steps) c.requires.job) in (
      Unfinished c.progress-progress.result.step,
      unfinished_told c.args.board.now.task
          c.args.seat.now c.progress-progress.new.seat c.progress-progress.result
          c.progress-progress.ensures.progressed (sound_at c.args.board.now c.progress-progress.new.seat c.progress-progress.ensures.later.desk c.facts-then-progress-steps.ensures)
          (sym c.is_some.ensures ∙ c.if-is_some.false) low,
    )

pub returns-in_err-cells-clause-some : goal.returns-in_err-cells-clause-some
returns-in_err-cells-clause-some c =
    let high : c.args.board.now.task.job.steps ≤ c.progress-progress.result.step =
    omega (arith, c.steps.ensures.value, ap (λ (j : JobData). j.steps) c.requires.job) in
    final_exists c.args.board.now.task c.args.seat.now c.progress-progress.new.seat
    c.memory-cells.new.seat c.progress-progress.result c.progress-progress.ensures.progressed high
    (looked_same _ _ c.in_err-cells.ensures.refused) (sound_at c.args.board.now c.memory-cells.new.seat c.in_err-cells.ensures.later.desk c.facts-2.ensures)

pub returns-clause-some : goal.returns-clause-some
returns-clause-some c =
    let high : c.args.board.now.task.job.steps ≤ c.progress-progress.result.step =
    omega (arith, c.steps.ensures.value, ap (λ (j : JobData). j.steps) c.requires.job) in
    final_exists c.args.board.now.task c.args.seat.now c.progress-progress.new.seat
    c.memory-cells.new.seat c.progress-progress.result c.progress-progress.ensures.progressed high
    (_, c.in_ok-cells.ensures.loads) (sound_at c.args.board.now c.memory-cells.new.seat c.in_ok-cells.ensures.later.desk c.facts-2.ensures)

pub returns-then-is_some-clause-told : goal.returns-then-is_some-clause-told
returns-then-is_some-clause-told c =
    conflict_told c.args.board.now.task c.args.seat.now c.progress-progress.new.seat
    c.fault-fault.new.seat c.progress-progress.result c.in_ok-fault.field-0
    c.progress-progress.ensures.progressed (sym c.is_some.ensures ∙ c.if-is_some.true)
    (_, c.in_ok-fault.ensures.loads) (sound_at c.args.board.now c.fault-fault.new.seat c.in_ok-fault.ensures.later.desk c.facts.ensures) c.in_ok-fault.ensures.fault

pub returns-then-is_some-clause-looked : goal.returns-then-is_some-clause-looked
returns-then-is_some-clause-looked c =
    looked_more c.args.seat.now c.progress-progress.new.seat c.fault-fault.new.seat
    (progress_looks _ _ _ _ c.progress-progress.ensures.progressed) (_, c.in_ok-fault.ensures.loads)

pub returns-then-progress-steps-clause-told : goal.returns-then-progress-steps-clause-told
returns-then-progress-steps-clause-told c =
    let low : c.progress-progress.result.step < c.args.board.now.task.job.steps =
    omega (arith, c.steps.ensures.value, ap (λ (j : JobData). j.steps) c.requires.job) in
    unfinished_told c.args.board.now.task
    c.args.seat.now c.progress-progress.new.seat c.progress-progress.result
    c.progress-progress.ensures.progressed (sound_at c.args.board.now c.progress-progress.new.seat c.progress-progress.ensures.later.desk c.facts-then-progress-steps.ensures)
    (sym c.is_some.ensures ∙ c.if-is_some.false) low

pub returns-then-progress-steps-clause-looked : goal.returns-then-progress-steps-clause-looked
returns-then-progress-steps-clause-looked c =
    progress_looks _ _ _ _ c.progress-progress.ensures.progressed

pub memory-cells-requires-clause-knows : goal.memory-cells-requires-clause-knows
memory-cells-requires-clause-knows c =
    let high : c.args.board.now.task.job.steps ≤ c.progress-progress.result.step =
    omega (arith, c.steps.ensures.value, ap (λ (j : JobData). j.steps) c.requires.job) in
    record { knows = inl (last_shown _ _ _ _ c.progress-progress.ensures.progressed high) }

pub returns-in_err-cells-clause-looked : goal.returns-in_err-cells-clause-looked
returns-in_err-cells-clause-looked c =
    looked_more c.args.seat.now c.progress-progress.new.seat c.memory-cells.new.seat
    (progress_looks _ _ _ _ c.progress-progress.ensures.progressed)
    (looked_same c.progress-progress.new.seat c.memory-cells.new.seat c.in_err-cells.ensures.refused)

pub returns-clause-told : goal.returns-clause-told
returns-clause-told c =
    let high : c.args.board.now.task.job.steps ≤ c.progress-progress.result.step =
    omega (arith, c.steps.ensures.value, ap (λ (j : JobData). j.steps) c.requires.job) in
    let cells = c.in_ok-cells.ensures.cells in
    final_told c.args.board.now.task c.args.seat.now c.progress-progress.new.seat
    c.memory-cells.new.seat c.progress-progress.result _ c.progress-progress.ensures.progressed high
    (_, c.in_ok-cells.ensures.loads) (sound_at c.args.board.now c.memory-cells.new.seat c.in_ok-cells.ensures.later.desk c.facts-2.ensures)
    (cells.0, cells.1, c.new.ensures ∙ cells.2)

pub returns-clause-looked : goal.returns-clause-looked
returns-clause-looked c =
    looked_more c.args.seat.now c.progress-progress.new.seat c.memory-cells.new.seat
    (progress_looks _ _ _ _ c.progress-progress.ensures.progressed) (_, c.in_ok-cells.ensures.loads)
