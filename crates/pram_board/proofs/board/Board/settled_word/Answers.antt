use Rattle.std.proofs.Common.{◌≡◌, ◌+◌, ◌<◌, ap, ◌∙◌, subst, arith}
use Rattle.pram_words.specs.declared.words.Word.TheVariants.{Stored}
use Rattle.pram_words.specs.Words.{length_of, number_of}
use Rattle.walkx.specs.declared.operation.Op.TheVariants.{Load}
use Rattle.walk_memory.proofs.Boards.{length_small}
use Rattle.lawful_walk.specs.Moments.{Sound}
use Rattle.pram_board.specs.Seats.{Desk, HasLoaded, SeatData, hears}
use Rattle.pram_board.proofs.Memory.{still_known, two_loads}
use Rattle.pram_board.proofs.Steps.{may_load}
use Rattle.pram_board.proofs.Stopping.{sound_word}
use Rattle.pram_board.proofs.board.Board.settled_word.Goals as goal

pub overflow_add-word : goal.overflow_add-word
overflow_add-word c =
    let h : c.place_word-word.result + 1 < length_of c.args.self.now.task.layout =
    subst (λ (d : Desk). c.place_word-word.result + 1 < length_of d.task.layout)
    c.self.view_is c.place_word-word.ensures.below in
    let s = length_small c.args.self.now.task.layout (c.facts.ensures).layout in
    omega arith

pub step-second-requires-clause-allowed : goal.step-second-requires-clause-allowed
step-second-requires-clause-allowed c =
    may_load c.args.self.now.task _ (c.place_word-word.result + 1)
    (subst (λ (d : Desk). c.place_word-word.result + 1 < length_of d.task.layout)
    c.self.view_is c.place_word-word.ensures.below)

pub returns-clause-value : goal.returns-clause-value
returns-clause-value c =
    let t = c.args.self.now.task in
    let q = c.args.seat.now in
    let is = c.step-second.ensures.grows
    ∙ ap (λ (z : SeatData). hears z (Load (c.place_word-word.result + 1))
    c.step-second.result) c.step-first.ensures.grows in
    c.newer.ensures ∙ sound_word t.job t.layout q.record_of c.args.place c.place_word-word.result
    c.step-first.result c.step-second.result c.requires.knows c.requires.place
    (subst (λ (d : Desk). c.place_word-word.result
    ≡ number_of d.task.layout (Stored c.args.place 0)) c.self.view_is
    c.place_word-word.ensures.first)
    (subst (λ (d : Desk). c.place_word-word.result + 1
    ≡ number_of d.task.layout (Stored c.args.place 1)) c.self.view_is
    c.place_word-word.ensures.second)
    (subst (λ (z : SeatData). Sound t.job t.layout z.record_of) is c.step-second.ensures.sound)

pub returns-clause-loads : goal.returns-clause-loads
returns-clause-loads c = two_loads c.place_word-word.result c.step-first.result
    (c.place_word-word.result + 1) c.step-second.result c.args.seat.now c.step-first.new.seat
    c.step-second.new.seat c.step-first.ensures.grows c.step-second.ensures.grows

pub returns-clause-knows : goal.returns-clause-knows
returns-clause-knows c =
    let t = c.args.self.now.task in
    let loads : HasLoaded 2 c.args.seat.now c.step-second.new.seat =
    two_loads c.place_word-word.result c.step-first.result
    (c.place_word-word.result + 1) c.step-second.result c.args.seat.now c.step-first.new.seat
    c.step-second.new.seat c.step-first.ensures.grows c.step-second.ensures.grows in
    still_known t 2 c.args.seat.now c.step-second.new.seat t.job.steps loads c.requires.knows
