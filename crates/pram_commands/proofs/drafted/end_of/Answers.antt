use Rattle.std.proofs.Common.{ℕ, ◌∙◌, ◌*◌, ap, subst, sym}
use Rattle.pram_job.specs.Job.{JobData}
use Rattle.pram_board.proofs.Memory.{still_known}
use Rattle.pram_board.specs.Seats.{HasSeen}
use Rattle.pram_commands.proofs.drafted.end_of.Goals as goal

pub memory-requires-clause-knows : goal.memory-requires-clause-knows
memory-requires-clause-knows c =
    let board = c.args.board.now in
    subst (λ (n : ℕ). HasSeen board.task.layout c.progress-progress.new.seat.record_of n)
    (c.if-progress-steps.false ∙ c.steps.ensures.value
    ∙ sym (ap (λ (j : JobData). j.steps) c.requires)) c.progress-progress.ensures.knows

pub stop-requires-clause-knows : goal.stop-requires-clause-knows
stop-requires-clause-knows c =
    let board = c.args.board.now in
    let first : HasSeen board.task.layout c.progress-progress.new.seat.record_of
    board.task.job.steps =
    subst (λ (n : ℕ). HasSeen board.task.layout c.progress-progress.new.seat.record_of n)
    (c.if-progress-steps.false ∙ c.steps.ensures.value
    ∙ sym (ap (λ (j : JobData). j.steps) c.requires)) c.progress-progress.ensures.knows in
    record {
      knows = still_known board.task (2 * board.task.job.cells) c.progress-progress.new.seat
          c.memory.new.seat board.task.job.steps c.in_ok-cells.ensures.loads first.knows;
    }
