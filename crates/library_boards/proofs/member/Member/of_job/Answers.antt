use Rattle.std.proofs.Common.{refl, sym, subst}
use Rattle.pram_words.specs.declared.layout.Form.TheVariants.{Wide}
use Rattle.pram_board.specs.Seats.{IsOpened}
use Rattle.library_boards.specs.declared.shared.Shared.{Shared}
use Rattle.library_boards.specs.Grains.{grain_or_default}
use Rattle.library_boards.proofs.Seated.{opened_at}
use Rattle.library_boards.proofs.member.Member.of_job.Goals as goal

pub returns-in-Ok : goal.returns-in-Ok
returns-in-Ok c =
    let job = c.args.job.now in
    opened_at c.args.workers c.args.grain job _
    (subst (λ (s : Shared). IsOpened job (Wide (grain_or_default c.args.grain job.procs))
    c.args.workers
    (s.board, c.in_ok-board.seat)) (sym c.in-Ok.ensures.ok) c.in_ok-board.ensures) refl
