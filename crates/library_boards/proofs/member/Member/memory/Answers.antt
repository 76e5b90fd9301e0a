use Rattle.std.proofs.Common.{subst, rules}
use Rattle.pram_board.specs.Seats.{HasSeen, IsLater}
use Rattle.library_boards.specs.declared.shared.Shared.{Shared}
use Rattle.library_boards.proofs.Seated.{goes_further, last_memory}
use Rattle.library_boards.proofs.member.Member.memory.Goals as goal

pub returns-in_err-memory-clause-goes_on : goal.returns-in_err-memory-clause-goes_on
returns-in_err-memory-clause-goes_on c =
    let seen = c.progress.new.self in
    goes_further c.args.self.now seen c.memory.new.seat c.progress.ensures.goes_on
    (subst (λ (s : Shared). IsLater s.board seen.seat c.memory.new.seat)
    c.deref-2.ensures c.memory.ensures.later)

pub returns-clause-goes_on : goal.returns-clause-goes_on
returns-clause-goes_on c =
    let seen = c.progress.new.self in
    goes_further c.args.self.now seen c.memory.new.seat c.progress.ensures.goes_on
    (subst (λ (s : Shared). IsLater s.board seen.seat c.memory.new.seat)
    c.deref-2.ensures c.memory.ensures.later)

pub returns-clause-cells : goal.returns-clause-cells
returns-clause-cells c =
    let seen = c.progress.new.self in
    let shared = c.deref-2.result.now in
    let last : HasSeen shared.board.task.layout seen.seat.record_of shared.board.task.job.steps
    = search rules in
    last_memory c.args.self.now seen shared c.memory.new.seat c.deref-2.ensures
    c.progress.ensures.goes_on _ c.in_ok-memory.field-0.items last c.in_ok-memory.ensures.loads
    c.in_ok-memory.ensures.cells
