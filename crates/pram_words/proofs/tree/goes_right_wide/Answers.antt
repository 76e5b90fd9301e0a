use Rattle.std.proofs.Common.{arith, refl, sym, subst}
use Rattle.pram_words.specs.Ways.{IsTurnWide}
use Rattle.pram_words.proofs.Ways.{low_bits, turn_wide}
use Rattle.pram_words.proofs.tree.goes_right_wide.Goals as goal

pub returns-clause-value : goal.returns-clause-value
returns-clause-value c =
    let low = c.depth-next.ensures.power_le in
    let most = c.requires.most in
    rw (
      low_bits c.args.w c.depth-next.result (omega (arith, low, most)),
      c.depth-next.ensures.value,
    ) refl

pub returns-clause-turn : goal.returns-clause-turn
returns-clause-turn c =
    subst (IsTurnWide c.args.w c.args.n) (sym (returns-clause-value c))
    (turn_wide c.args.w c.args.n c.ranges.n.fits)
