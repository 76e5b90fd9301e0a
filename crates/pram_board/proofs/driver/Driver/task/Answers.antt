use Rattle.std.proofs.Common.{refl, sym, subst, ℕ, arith}
use Rattle.pram_board.specs.Inner.Plays.{DoneTo, driving}
use Rattle.pram_board.proofs.Tasks.{done_from, not_moved}
use Rattle.pram_board.proofs.driver.Driver.task.Goals as goal

pub returns-clause-done : goal.returns-clause-done
returns-clause-done g c =
    let at = c.args.leaf.now in
    subst (λ (rank : ℕ). DoneTo at c.args.len (driving c.args.self.now) c.args.memory.now rank
    (driving c.part.new.self) c.part.new.memory) (sym c.rank.ensures)
    (done_from at.rank at at refl (omega arith) c.args.len (driving c.args.self.now)
    c.args.memory.now (driving c.args.self.now) c.args.memory.now c.requires.at
    (not_moved _ _ _ c.requires.at.walks) (driving c.part.new.self) c.part.new.memory
    c.part.ensures.done.moved c.part.ensures.done.fits)
