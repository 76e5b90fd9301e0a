use Rattle.std.proofs.Common.{◌≡◌, ◌<◌, suc, ℕ, refl, sym, ap, subst, ◌∙◌, arith}
use Rattle.walk_memory.specs.Inner.Posts.{IsLeafPost, PostData, at_rank}
use Rattle.walk_memory.specs.Plain.{AllStore}
use Rattle.walk_memory.specs.Blocks.{IsWide}
use Rattle.pram_board.specs.Inner.Plays.{Moved, driving, in_block, post_task}
use Rattle.pram_board.proofs.Tasks.{leaf_after, not_moved, same_after, task_after, went_on}
use Rattle.pram_board.proofs.driver.Driver.plain_stores.Goals as goal

pub loop-last-init : goal.loop-last-init
loop-last-init g c = record {
  seat = refl;
  same = refl;
  at = c.requires.at;
  stores = c.requires.stores;
  moved = not_moved _ _ _ c.requires.at.walks;
}

pub stores-last-requires-clause-at : goal.stores-last-requires-clause-at
stores-last-requires-clause-at g c = c.loop-last.invariant.at

pub stores-last-requires-clause-stores : goal.stores-last-requires-clause-stores
stores-last-requires-clause-stores g c = c.loop-last.invariant.stores

pub returns-then-rank-len-clause-same : goal.returns-then-rank-len-clause-same
returns-then-rank-len-clause-same g c = c.stores-last.ensures.same ∙ c.loop-last.invariant.seat

pub returns-then-rank-len-clause-moved : goal.returns-then-rank-len-clause-moved
returns-then-rank-len-clause-moved g c =
    let i = c.loop-last.invariant in
    let last : suc c.stores-last.result.rank ≡ c.args.len =
    omega (arith, c.rank.ensures, c.if-rank-len.true) in
    subst (λ (rank : ℕ). Moved (post_task c.args.leaf) (driving c.args.self.now)
    (in_block c.args.leaf c.args.leaf.rank c.args.memory.now) (driving c.stores-last.new.self)
    (in_block c.args.leaf rank c.stores-last.new.memory)) last
    (went_on c.args.leaf c.loop-last.leaf i.same c.args.len
    (driving c.args.self.now) c.args.memory.now (driving c.loop-last.self) c.loop-last.memory i.at
    i.moved (driving c.stores-last.new.self) c.stores-last.new.memory c.stores-last.result.rank
    c.stores-last.ensures.done)

pub next-leaf-requires-clause-wide : goal.next-leaf-requires-clause-wide
next-leaf-requires-clause-wide g c =
    subst (λ (a : PostData). IsWide a.layout.form) (sym c.stores-last.ensures.leaf)
    c.loop-last.invariant.at.walks.fits.block.2

pub next-leaf-requires-clause-leaf : goal.next-leaf-requires-clause-leaf
next-leaf-requires-clause-leaf g c =
    let i = c.loop-last.invariant in
    let within = c.stores-last.ensures.done.within in
    let rank = c.stores-last.result.rank in
    let more : suc rank < c.args.len =
    omega (arith, within, c.rank.ensures, c.if-rank-len.false) in
    subst (λ (a : PostData). IsLeafPost (at_rank a (suc rank))) (sym c.stores-last.ensures.leaf)
    (leaf_after c.args.leaf c.loop-last.leaf i.same c.args.len
    (driving c.args.self.now) c.args.memory.now (driving c.loop-last.self) c.loop-last.memory i.at
    i.moved (driving c.stores-last.new.self) c.stores-last.new.memory rank
    c.stores-last.ensures.done more)

pub loop-last-smaller : goal.loop-last-smaller
loop-last-smaller g c =
    let done = c.stores-last.ensures.done in
    let next = ap (λ (a : PostData). a.rank) c.next-leaf.ensures in
    omega (arith, done.onward, done.within, next)

pub loop-last-preserved : goal.loop-last-preserved
loop-last-preserved g c =
    let i = c.loop-last.invariant in
    let within = c.stores-last.ensures.done.within in
    let rank = c.stores-last.result.rank in
    let more : suc rank < c.args.len =
    omega (arith, within, c.rank.ensures, c.if-rank-len.false) in
    let z = driving c.stores-last.new.self in
    let now = c.stores-last.new.memory in
    let next : c.next-leaf.result ≡ at_rank c.loop-last.leaf (suc rank) = c.next-leaf.ensures
    ∙ ap (λ (a : PostData). at_rank a (suc rank)) c.stores-last.ensures.leaf in
    rw next (record {
      seat = c.stores-last.ensures.same ∙ i.seat;
      same = same_after c.args.leaf c.loop-last.leaf i.same c.args.len
          (driving c.args.self.now) c.args.memory.now (driving c.loop-last.self)
          c.loop-last.memory i.at i.moved z now rank c.stores-last.ensures.done;
      at = task_after c.args.leaf c.loop-last.leaf i.same c.args.len
          (driving c.args.self.now) c.args.memory.now (driving c.loop-last.self)
          c.loop-last.memory i.at i.moved z now rank c.stores-last.ensures.done more;
      stores = subst (λ (a : PostData). AllStore (at_rank a (suc rank)) c.args.len now)
          c.stores-last.ensures.leaf c.stores-last.ensures.stores;
      moved = went_on c.args.leaf c.loop-last.leaf i.same c.args.len
          (driving c.args.self.now) c.args.memory.now (driving c.loop-last.self)
          c.loop-last.memory i.at i.moved z now rank c.stores-last.ensures.done;
    })
