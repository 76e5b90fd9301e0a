use Rattle.std.proofs.Common.{subst}
use Rattle.pram_board.specs.Seats.{IsLater}
use Rattle.library_boards.specs.declared.shared.Shared.{Shared}
use Rattle.library_boards.proofs.Seated.{goes_on}
use Rattle.library_boards.proofs.member.Member.progress.Goals as goal

pub returns-clause-goes_on : goal.returns-clause-goes_on
returns-clause-goes_on c =
    goes_on c.args.self.now c.progress.new.seat c.requires
    (subst (λ (s : Shared). IsLater s.board c.args.self.now.seat c.progress.new.seat)
    c.deref.ensures c.progress.ensures.later)
