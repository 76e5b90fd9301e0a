use Rattle.std.proofs.Common.{◌≡◌, ◌-◌, ◌≤◌}
use Rattle.pram_words.specs.Words.{grain}
use Rattle.walkx.specs.Passing.{passed_alone}
use Rattle.walkx.specs.Walk.{passes_over}
use Rattle.walkx.proofs.idle.pass.Given as goal

abbrev pub invariant-loop-leaf : goal.invariant-loop-leaf
invariant-loop-leaf l = (passed_alone l.post l.fn.memory
    ≡ passes_over (grain l.post.layout - (l.rank - l.post.rank)) l.post.job l.post.layout
    l.post.node l.post.phase l.rank l.memory)
    × (l.post.rank ≤ l.rank) × (l.rank ≤ grain l.post.layout)

abbrev pub decreases-loop-leaf : goal.decreases-loop-leaf
decreases-loop-leaf l = grain l.post.layout - l.rank
