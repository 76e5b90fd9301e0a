use Rattle.std.proofs.Common.{sym, subst}
use Rattle.pram_board.specs.Worked.{Works}
use Rattle.library_boards.specs.declared.shared.Shared.{Shared}
use Rattle.library_boards.proofs.member.Member.turns.Goals as goal

pub work_turns-requires : goal.work_turns-requires
work_turns-requires c = record {
  works = subst (λ (s : Shared). Works s.board c.args.self.now.seat c.in-Some.worker)
      (sym c.deref.ensures) (c.requires.works c.in-Some.worker c.in-Some.is);
}
