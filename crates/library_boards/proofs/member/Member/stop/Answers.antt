use Rattle.std.proofs.Common.{subst}
use Rattle.pram_board.specs.Seats.{IsLater}
use Rattle.library_boards.specs.declared.shared.Shared.{Shared}
use Rattle.library_boards.proofs.Seated.{apart_as, goes_further, stops_as}
use Rattle.library_boards.proofs.member.Member.stop.Goals as goal

pub returns-clause-goes_on : goal.returns-clause-goes_on
returns-clause-goes_on c =
    let seen = c.progress.new.self in
    goes_further c.args.self.now seen c.stop.new.seat c.progress.ensures.goes_on
    (subst (λ (s : Shared). IsLater s.board seen.seat c.stop.new.seat)
    c.deref-2.ensures c.stop.ensures.later)

pub returns-clause-stops : goal.returns-clause-stops
returns-clause-stops c =
    stops_as c.args.self.now c.progress.new.self c.deref-2.result.now c.stop.new.seat
    c.deref-2.ensures c.progress.ensures.goes_on c.stop.result c.stop.ensures.stops

pub returns-clause-none : goal.returns-clause-none
returns-clause-none c =
    apart_as c.args.self.now c.progress.new.self c.deref-2.result.now c.stop.new.seat
    c.deref-2.ensures c.progress.ensures.goes_on c.stop.result c.stop.ensures.none
