use Rattle.std.proofs.Common.{Some, ap, sym, subst, ◌∙◌}
use Rattle.lawful_walk.specs.Moments.{Sound}
use Rattle.pram_board.specs.Seats.{Desk}
use Rattle.pram_board.proofs.Next.{is_next}
use Rattle.pram_board.proofs.Told.{shows_end}
use Rattle.pram_board.proofs.board.Board.tick.Goals as goal

pub advance-requires-clause-next : goal.advance-requires-clause-next
advance-requires-clause-next c = is_next c.self.inside.task c.args.self.now.task
    c.args.worker.now.walking c.ask-op.result (ap (λ d. d.task) c.self.view_is)
    c.ask-op.ensures.asks c.ask-op.ensures.admitted c.ask-op.ensures.step

pub returns-in-Some-clause-shows : goal.returns-in-Some-clause-shows
returns-in-Some-clause-shows c =
    let t = c.args.self.now.task in
    let r = c.args.seat.now.record_of in
    let works = c.requires.works in
    shows_end t r c.args.worker.now.walking (Some c.in-Some.ended)
    (sym c.in-Some.is ∙ c.ended.ensures)
    (subst (λ (d : Desk). Sound d.task.job d.task.layout r) works.desk c.facts.ensures)
    works.serves.fits works.knows

pub returns-clause-shows : goal.returns-clause-shows
returns-clause-shows c =
    let works = c.advance.ensures.works in
    shows_end c.args.self.now.task c.advance.new.seat.record_of c.advance.new.worker.walking
    c.ended-2.result c.ended-2.ensures
    (subst (λ (d : Desk). Sound d.task.job d.task.layout c.advance.new.seat.record_of) works.desk
    c.facts-2.ensures) works.serves.fits works.knows
