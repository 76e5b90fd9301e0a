use Rattle.std.proofs.Common.{◌≡◌, ◌<◌, subst, ap, arith}
use Rattle.pram_words.specs.Words.{length_of, number_of}
use Rattle.pram_words.specs.declared.words.Word.TheVariants.{Asked}
use Rattle.walk_memory.proofs.Boards.{same_procs}
use Rattle.pram_board.specs.Seats.{Desk}
use Rattle.pram_board.proofs.Faults.{part_heard}
use Rattle.pram_board.proofs.Memory.{no_loads, one_load}
use Rattle.pram_board.proofs.Steps.{may_load}
use Rattle.pram_board.proofs.board.Board.part.Goals as goal

pub request_word-requires-clause-processor : goal.request_word-requires-clause-processor
request_word-requires-clause-processor c =
    let procs = same_procs c.args.self.now.task.job c.args.self.now.task.layout c.facts.ensures in
    let same : c.self.inside.task.layout.procs ≡ c.args.self.now.task.layout.procs =
    ap (λ (d : Desk). d.task.layout.procs) c.self.view_is in
    omega arith

pub step-requires-clause-allowed : goal.step-requires-clause-allowed
step-requires-clause-allowed c = may_load c.args.self.now.task _ c.request_word.result
    (subst (λ (d : Desk). c.request_word.result < length_of d.task.layout)
    c.self.view_is c.request_word.ensures.below)

pub returns-clause-is : goal.returns-clause-is
returns-clause-is c = λ s heard.
    part_heard c.args.self.now.task c.args.seat.now c.step.new.seat
    c.request_word.result c.args.processor
    c.args.part c.step.result s c.facts.ensures c.requires.compact c.requires.processor
    c.requires.part
    (subst (λ (d : Desk). c.request_word.result ≡ number_of d.task.layout
    (Asked c.args.processor c.args.part)) c.self.view_is c.request_word.ensures.value)
    c.step.ensures.grows c.step.ensures.sound heard

pub returns-clause-loads : goal.returns-clause-loads
returns-clause-loads c = one_load 0 c.request_word.result c.step.result c.args.seat.now
    c.args.seat.now c.step.new.seat (no_loads c.args.seat.now) c.step.ensures.grows
