use Rattle.std.proofs.Common.{◌≡◌, ◌+◌, ◌-◌, true, sym, ◌∙◌, arith}
use Rattle.pram_words.specs.Words.{grain}
use Rattle.walk_memory.specs.Blocks.{has_rank}
use Rattle.walk_memory.proofs.Ranks.{rank_parts}
use Rattle.walkx.proofs.Stepping.{goes_past, none_left, stops_here}
use Rattle.walkx.proofs.idle.pass.Goals as goal

pub loop-leaf-preserved : goal.loop-leaf-preserved
loop-leaf-preserved c =
    let at = c.args.post.now in
    let rank = c.loop-leaf.rank in
    let i = c.loop-leaf.invariant in
    let there : has_rank at.layout at.node rank ≡ true =
    sym c.has_rank.ensures.value ∙ c.loop-leaf-test.true in
    let below = (rank_parts at.layout at.node rank there).0 in
    let known = rw (c.memo-memo.ensures, c.processor.ensures.value, c.leaf_at-leaf.ensures) at
    c.if-not-passes.ensures.idle in
    let kept = rw (c.processor-in-loop-leaf.ensures.value, c.leaf_at-leaf.ensures) at
    c.keep.ensures in (
      i.0 ∙ rw kept (goes_past at.job at.layout at.node at.phase rank c.loop-leaf.memory
          c.requires.wide (grain at.layout - (rank - at.rank))
          (grain at.layout - (rank + 1 - at.rank)) (rank + 1) c.passes.new.memo
          (omega (arith, below, i.1)) (omega arith) there known),
      omega (arith, i.1),
      omega (arith, below),
    )

pub returns-after-loop-leaf-clause-value : goal.returns-after-loop-leaf-clause-value
returns-after-loop-leaf-clause-value c =
    let at = c.args.post.now in
    let rank = c.loop-leaf.rank in
    sym (c.loop-leaf.invariant.0 ∙ none_left at.job at.layout at.node at.phase rank
    c.loop-leaf.memory c.requires.wide (grain at.layout - (rank - at.rank))
    (sym c.has_rank.ensures.value ∙ c.loop-leaf-test.false))

pub returns-then-not-passes-clause-value : goal.returns-then-not-passes-clause-value
returns-then-not-passes-clause-value c =
    let at = c.args.post.now in
    let rank = c.loop-leaf.rank in
    let known = rw (c.memo-memo.ensures, c.processor.ensures.value, c.leaf_at-leaf.ensures) at
    c.if-not-passes.ensures.idle in
    sym (c.loop-leaf.invariant.0 ∙ stops_here at.job at.layout at.node at.phase rank
    c.loop-leaf.memory c.requires.wide (grain at.layout - (rank - at.rank))
    (sym c.has_rank.ensures.value ∙ c.loop-leaf-test.true) known)
