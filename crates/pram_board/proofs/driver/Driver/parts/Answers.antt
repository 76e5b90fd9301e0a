use Rattle.std.proofs.Common.{◌≡◌, ◌<◌, suc, ℕ, refl, ap, subst, ◌∙◌, arith}
use Rattle.walk_memory.specs.Inner.Posts.{PostData}
use Rattle.pram_board.specs.Inner.Plays.{Moved, driving, in_block, post_task}
use Rattle.pram_board.proofs.Tasks.{at_next, done_from, is_within, leaf_at, not_moved, same_next}
use Rattle.pram_board.proofs.driver.Driver.parts.Goals as goal

pub loop-leaf-init : goal.loop-leaf-init
loop-leaf-init g c = record {
  seat = refl;
  same = refl;
  later = omega arith;
  at = c.requires.at;
  moved = not_moved _ _ _ c.requires.at.walks;
}

pub returns-then-rank-len-clause-moved : goal.returns-then-rank-len-clause-moved
returns-then-rank-len-clause-moved g c =
    let i = c.loop-leaf.invariant in
    let done = done_from c.args.leaf.rank c.args.leaf c.loop-leaf.leaf i.same i.later c.args.len
    (driving c.args.self.now) c.args.memory.now (driving c.loop-leaf.self) c.loop-leaf.memory i.at
    i.moved (driving c.second_part.new.self) c.second_part.new.memory c.second_part.ensures.done.moved c.second_part.ensures.done.fits in
    let last : suc c.loop-leaf.leaf.rank ≡ c.args.len =
    omega (arith, c.rank.ensures, c.if-rank-len.true) in
    subst (λ (rank : ℕ). Moved (post_task c.args.leaf) (driving c.args.self.now)
    (in_block c.args.leaf c.args.leaf.rank c.args.memory.now) (driving c.second_part.new.self)
    (in_block c.args.leaf rank c.second_part.new.memory)) last done.moved

pub next-leaf-requires-clause-leaf : goal.next-leaf-requires-clause-leaf
next-leaf-requires-clause-leaf g c =
    let i = c.loop-leaf.invariant in
    let within = is_within _ _ _ _ i.at in
    let more : suc c.loop-leaf.leaf.rank < c.args.len =
    omega (arith, within, c.rank.ensures, c.if-rank-len.false) in
    leaf_at c.loop-leaf.leaf c.args.len (suc c.loop-leaf.leaf.rank) i.at.leaf i.at.ranks more

pub loop-leaf-smaller : goal.loop-leaf-smaller
loop-leaf-smaller g c =
    let i = c.loop-leaf.invariant in
    let within = is_within _ _ _ _ i.at in
    let next = ap (λ (a : PostData). a.rank) c.next-leaf.ensures in
    omega (arith, within, next)

pub loop-leaf-preserved : goal.loop-leaf-preserved
loop-leaf-preserved g c =
    let i = c.loop-leaf.invariant in
    let within = is_within _ _ _ _ i.at in
    let more : suc c.loop-leaf.leaf.rank < c.args.len =
    omega (arith, within, c.rank.ensures, c.if-rank-len.false) in
    let p = driving c.args.self.now in
    let q = driving c.loop-leaf.self in
    let z = driving c.second_part.new.self in
    let memory = c.args.memory.now in
    let mid = c.loop-leaf.memory in
    let now = c.second_part.new.memory in
    let on = c.second_part.ensures in
    let done = done_from c.args.leaf.rank c.args.leaf c.loop-leaf.leaf i.same i.later c.args.len p memory q mid i.at i.moved
    z now on.done.moved on.done.fits in
    rw c.next-leaf.ensures (record {
      seat = on.same ∙ i.seat;
      same = same_next c.args.leaf.rank c.args.leaf c.loop-leaf.leaf i.same i.later c.args.len p memory q mid i.at i.moved
          z now on.done.moved on.done.fits;
      later = omega (arith, i.later);
      at = at_next c.args.leaf.rank c.args.leaf c.loop-leaf.leaf i.same i.later c.args.len p memory q mid i.at i.moved z now
          on.done.moved on.done.fits more;
      moved = done.moved;
    })
