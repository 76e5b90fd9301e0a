use Rattle.std.proofs.Common.{◌≡◌, ◌<◌, ◌^◌, subst, arith}
use Rattle.pram_words.specs.Words.{length_of, number_of}
use Rattle.pram_words.specs.declared.words.Word.TheVariants.{Conflict}
use Rattle.lawful_walk.specs.Moments.{Sound}
use Rattle.pram_board.specs.Seats.{Desk, SeatData}
use Rattle.pram_board.proofs.Faults.{named_again}
use Rattle.pram_board.proofs.Memory.{no_loads, one_load}
use Rattle.pram_board.proofs.Steps.{may_load, conflict_small}
use Rattle.pram_board.proofs.board.Board.named.Goals as goal

pub step-requires-clause-allowed : goal.step-requires-clause-allowed
step-requires-clause-allowed c = may_load c.args.self.now.task _ c.conflict_word.result
    (subst (λ (d : Desk). c.conflict_word.result < length_of d.task.layout) c.self.view_is
    c.conflict_word.ensures.below)

pub overflow_cast-result : goal.overflow_cast-result
overflow_cast-result c =
    let t = c.args.self.now.task in
    let small : c.step.result < 2 ^ 32 =
    conflict_small t c.args.seat.now.record_of c.conflict_word.result c.step.result c.facts.ensures
    (subst (λ (d : Desk). c.conflict_word.result ≡ number_of d.task.layout Conflict) c.self.view_is
    c.conflict_word.ensures.value)
    (subst (λ (d : Desk). c.conflict_word.result < length_of d.task.layout)
    c.self.view_is c.conflict_word.ensures.below)
    (subst (λ (p : SeatData). Sound t.job t.layout p.record_of)
    c.step.ensures.grows c.step.ensures.sound) in
    omega arith

pub returns-clause-is : goal.returns-clause-is
returns-clause-is c = λ u some heard.
    named_again c.args.self.now.task
    c.args.seat.now c.step.new.seat c.conflict_word.result c.step.result u
    (subst (λ (d : Desk). c.conflict_word.result ≡ number_of d.task.layout Conflict) c.self.view_is
    c.conflict_word.ensures.value) c.step.ensures.grows c.step.ensures.sound some heard

pub returns-clause-loads : goal.returns-clause-loads
returns-clause-loads c = one_load 0 c.conflict_word.result c.step.result c.args.seat.now
    c.args.seat.now c.step.new.seat (no_loads c.args.seat.now) c.step.ensures.grows
