use Rattle.std.proofs.Common.{subst, rules}
use Rattle.pram_board.specs.Seats.{IsLater, KnowsConflict}
use Rattle.library_boards.specs.declared.shared.Shared.{Shared}
use Rattle.library_boards.proofs.Seated.{goes_further, known_fault}
use Rattle.library_boards.proofs.member.Member.fault.Goals as goal

pub returns-in_err-fault-clause-goes_on : goal.returns-in_err-fault-clause-goes_on
returns-in_err-fault-clause-goes_on c =
    let seen = c.progress.new.self in
    goes_further c.args.self.now seen c.fault.new.seat c.progress.ensures.goes_on
    (subst (λ (s : Shared). IsLater s.board seen.seat c.fault.new.seat)
    c.deref.ensures c.fault.ensures.later)

pub returns-clause-goes_on : goal.returns-clause-goes_on
returns-clause-goes_on c =
    let seen = c.progress.new.self in
    goes_further c.args.self.now seen c.fault.new.seat c.progress.ensures.goes_on
    (subst (λ (s : Shared). IsLater s.board seen.seat c.fault.new.seat)
    c.deref.ensures c.fault.ensures.later)

pub returns-clause-fault : goal.returns-clause-fault
returns-clause-fault c =
    let seen = c.progress.new.self in
    let shared = c.deref.result.now in
    let known : KnowsConflict shared.board.task.layout seen.seat.record_of = search rules in
    known_fault c.args.self.now seen shared c.fault.new.seat c.deref.ensures
    c.progress.ensures.goes_on c.in_ok-fault.field-0 known c.fault.ensures.later.keeps
    c.in_ok-fault.ensures.fault
