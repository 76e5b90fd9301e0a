use Rattle.std.proofs.Common.{◌+◌, ◌<◌, ap, ◌∙◌, arith}
use Rattle.pram_words.specs.Words.{length_of}
use Rattle.walkx.specs.declared.operation.Op.TheVariants.{Load}
use Rattle.walk_memory.proofs.Boards.{length_small}
use Rattle.pram_board.specs.Seats.{SeatData, hears}
use Rattle.pram_board.proofs.Memory.{loaded, two_loads}
use Rattle.pram_board.proofs.Steps.{may_load}
use Rattle.pram_board.proofs.board.Board.last_value.Goals as goal

pub step-first-requires-clause-allowed : goal.step-first-requires-clause-allowed
step-first-requires-clause-allowed c =
    let h : c.cell_word-word.result + 1 < length_of c.args.self.now.task.layout =
    c.cell_word-word.ensures.below in
    may_load c.args.self.now.task _ c.cell_word-word.result (omega arith)

pub step-second-requires-clause-allowed : goal.step-second-requires-clause-allowed
step-second-requires-clause-allowed c =
    may_load c.args.self.now.task _ (c.cell_word-word.result + 1) c.cell_word-word.ensures.below

pub returns-clause-loads : goal.returns-clause-loads
returns-clause-loads c = two_loads c.cell_word-word.result c.step-first.result
    (c.cell_word-word.result + 1) c.step-second.result c.args.seat.now c.step-first.new.seat
    c.step-second.new.seat c.step-first.ensures.grows c.step-second.ensures.grows

pub returns-clause-value : goal.returns-clause-value
returns-clause-value c =
    c.newer_payload.ensures ∙ loaded c.args.self.now.task c.args.seat.now c.step-second.new.seat
    c.args.cell c.cell_word-word.result c.step-first.result c.step-second.result c.requires.knows
    c.requires.cell c.cell_word-word.ensures.place c.cell_word-word.ensures.first
    c.cell_word-word.ensures.second (c.step-second.ensures.grows
    ∙ ap (λ (z : SeatData). hears z (Load (c.cell_word-word.result + 1))
    c.step-second.result) c.step-first.ensures.grows) c.step-second.ensures.sound

pub overflow_add-word : goal.overflow_add-word
overflow_add-word c =
    let h : c.cell_word-word.result + 1 < length_of c.args.self.now.task.layout =
    c.cell_word-word.ensures.below in
    let s = length_small c.args.self.now.task.layout (c.facts.ensures).layout in
    omega arith
