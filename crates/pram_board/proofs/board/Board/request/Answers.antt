use Rattle.std.proofs.Common.{suc}
use Rattle.pram_machine.specs.Instructions.{request_in}
use Rattle.pram_step.specs.Runs.{state_after}
use Rattle.pram_board.proofs.Faults.{still_heard, words_of}
use Rattle.pram_board.proofs.Memory.{more_loads}
use Rattle.pram_board.proofs.board.Board.request.Goals as goal

pub returns-clause-is : goal.returns-clause-is
returns-clause-is c = λ s heard.
    let t = c.args.self.now.task in
    let again = still_heard t 1 c.args.seat.now c.part-place.new.seat
    (suc s) c.part-place.ensures.loads heard in
    let once_more = still_heard t 1 c.part-place.new.seat c.part-value.new.seat
    (suc s) c.part-value.ensures.loads again in
    c.request_of.ensures.undoes (suc s) (request_in t.job (state_after t.job s) c.args.processor)
    (words_of t.job s c.args.processor c.part-place.result c.part-value.result c.part-next.result
    (c.part-place.ensures.is s heard) (c.part-value.ensures.is s again)
    (c.part-next.ensures.is s once_more))

pub returns-clause-loads : goal.returns-clause-loads
returns-clause-loads c =
    more_loads 2 1 c.args.seat.now c.part-value.new.seat c.part-next.new.seat
    (more_loads 1 1 c.args.seat.now c.part-place.new.seat c.part-value.new.seat
    c.part-place.ensures.loads c.part-value.ensures.loads) c.part-next.ensures.loads
