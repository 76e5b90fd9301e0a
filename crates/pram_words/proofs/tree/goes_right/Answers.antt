use Rattle.std.proofs.Common.{◌<◌, arith, sym, subst}
use Rattle.std.proofs.lemmas.Nat.{and_mask}
use Rattle.pram_words.specs.Tree.{depth_of, IsTurn}
use Rattle.pram_words.proofs.Halvings.{depth_below, turn, turn_bit}
use Rattle.pram_words.proofs.tree.goes_right.Goals as goal

pub overflow_sub-bit-2 : goal.overflow_sub-bit-2
overflow_sub-bit-2 c =
    let below : c.depth.result < c.height.result =
    depth_below _ _ _ _ c.height.ensures.power c.requires.inner c.depth.ensures.power_le in
    omega arith

pub returns-clause-value : goal.returns-clause-value
returns-clause-value c =
    let below : depth_of c.args.n < c.height.result = depth_below _ _ _ _ c.height.ensures.power
    c.requires.inner (rw (← c.depth.ensures.value) c.depth.ensures.power_le) in
    rw (c.depth.ensures.value, and_mask _ 1) (sym (turn_bit c.args.l c.args.w c.args.n
    c.height.result c.height.ensures.power c.height.ensures.value below))

pub returns-clause-turn : goal.returns-clause-turn
returns-clause-turn c =
    subst (IsTurn c.args.l c.args.w c.args.n) (sym (returns-clause-value c))
    (turn c.args.l c.args.w c.args.n c.ranges.l.fits c.ranges.n.fits)
