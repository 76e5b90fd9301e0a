use Rattle.std.proofs.Common.{◌<◌, ◌≤◌, ◌-◌, suc, sym, subst, refl, ℕ, ap, ◌∙◌, arith}
use Rattle.walk_memory.specs.Inner.Posts.{PostData}
use Rattle.walk_memory.specs.Stands.{IsStand}
use Rattle.pram_board.specs.Inner.Plays.{DoneMore, Tried, driving}
use Rattle.pram_board.proofs.Tasks.{at_next, done_from, done_none, done_untried, is_past, is_within}
use Rattle.pram_board.proofs.Tasks.{leaf_at, not_moved, same_next, task_next}
use Rattle.pram_board.proofs.driver.Driver.run_on.Goals as goal

pub returns-then-first-len-clause-done : goal.returns-then-first-len-clause-done
returns-then-first-len-clause-done g c =
    subst (λ (rank : ℕ). DoneMore c.args.leaf.now c.args.len (driving c.args.self.now)
    c.args.memory.now rank (driving c.args.self.now) c.args.memory.now) (sym c.rank-first.ensures)
    (done_none c.args.leaf.now c.args.len (driving c.args.self.now) c.args.memory.now
    c.requires.past)

pub next-next-requires-clause-leaf : goal.next-next-requires-clause-leaf
next-next-requires-clause-leaf g c =
    let at = c.args.leaf.now in
    let within = is_past at c.args.len (driving c.args.self.now) c.args.memory.now
    c.requires.past in
    let more : suc at.rank < c.args.len =
    omega (arith, within, c.rank-first.ensures, c.if-first-len.false) in
    leaf_at at c.args.len (suc at.rank) c.requires.past.leaf c.requires.past.ranks more

pub loop-next-init : goal.loop-next-init
loop-next-init g c =
    let at = c.args.leaf.now in
    let within = is_past at c.args.len (driving c.args.self.now) c.args.memory.now
    c.requires.past in
    let more : suc at.rank < c.args.len =
    omega (arith, within, c.rank-first.ensures, c.if-first-len.false) in
    rw c.next-next.ensures (record {
      seat = refl;
      same = refl;
      later = omega arith;
      at = task_next at c.args.len (driving c.args.self.now) c.args.memory.now c.requires.past more;
      moved = not_moved _ _ _ c.requires.past.walks;
    })

pub part_at-requires-clause-stand : goal.part_at-requires-clause-stand
part_at-requires-clause-stand g c =
    subst (λ (a : PostData). IsStand a c.args.counter c.args.instr.now)
    (sym c.loop-next.invariant.same) c.requires.stand

pub returns-then-not-part_at-clause-done : goal.returns-then-not-part_at-clause-done
returns-then-not-part_at-clause-done g c =
    let at = c.args.leaf.now in
    let i = c.loop-next.invariant in
    subst (λ (rank : ℕ). DoneMore at c.args.len (driving c.args.self.now) c.args.memory.now
    (rank - 1) (driving c.part_at.new.self) c.part_at.new.memory) (sym c.rank-rank.ensures)
    (done_untried (suc at.rank) at c.loop-next.next i.same i.later c.args.len
    (driving c.args.self.now) c.args.memory.now (driving c.loop-next.self) c.loop-next.memory i.at
    i.moved (driving c.part_at.new.self) c.part_at.new.memory c.part_at.result
    c.if-not-part_at.true c.part_at.ensures.tried)

pub returns-then-rank-len-clause-done : goal.returns-then-rank-len-clause-done
returns-then-rank-len-clause-done g c =
    let at = c.args.leaf.now in
    let i = c.loop-next.invariant in
    let low : at.rank ≤ c.loop-next.next.rank = omega (arith, i.later) in
    let tried = subst (Tried c.loop-next.next (driving c.loop-next.self) c.loop-next.memory
    (driving c.part_at.new.self) c.part_at.new.memory) c.if-not-part_at.false
    c.part_at.ensures.tried in
    subst (λ (rank : ℕ). DoneMore at c.args.len (driving c.args.self.now) c.args.memory.now
    rank (driving c.part_at.new.self) c.part_at.new.memory) (sym c.rank-rank.ensures)
    (done_from (suc at.rank) at c.loop-next.next i.same low c.args.len (driving c.args.self.now)
    c.args.memory.now (driving c.loop-next.self) c.loop-next.memory i.at i.moved
    (driving c.part_at.new.self) c.part_at.new.memory tried.moved tried.fits)

pub next-next-requires-in-loop-next-clause-leaf : goal.next-next-requires-in-loop-next-clause-leaf
next-next-requires-in-loop-next-clause-leaf g c =
    let i = c.loop-next.invariant in
    let within = is_within _ _ _ _ i.at in
    let more : suc c.loop-next.next.rank < c.args.len =
    omega (arith, within, c.rank-rank.ensures, c.if-rank-len.false) in
    leaf_at c.loop-next.next c.args.len (suc c.loop-next.next.rank) i.at.leaf i.at.ranks more

pub loop-next-smaller : goal.loop-next-smaller
loop-next-smaller g c =
    let i = c.loop-next.invariant in
    let within = is_within _ _ _ _ i.at in
    let next = ap (λ (a : PostData). a.rank) c.next-next-in-loop-next.ensures in
    omega (arith, within, next)

pub loop-next-preserved : goal.loop-next-preserved
loop-next-preserved g c =
    let at = c.args.leaf.now in
    let i = c.loop-next.invariant in
    let p = driving c.args.self.now in
    let q = driving c.loop-next.self in
    let z = driving c.part_at.new.self in
    let memory = c.args.memory.now in
    let mid = c.loop-next.memory in
    let now = c.part_at.new.memory in
    let next = c.loop-next.next in
    let within = is_within _ _ _ _ i.at in
    let low : at.rank ≤ next.rank = omega (arith, i.later) in
    let more : suc next.rank < c.args.len =
    omega (arith, within, c.rank-rank.ensures, c.if-rank-len.false) in
    let tried = subst (Tried next q mid z now) c.if-not-part_at.false c.part_at.ensures.tried in
    let done = done_from (suc at.rank) at next i.same low c.args.len p memory q mid i.at i.moved z now
    tried.moved tried.fits in
    rw c.next-next-in-loop-next.ensures (record {
      seat = c.part_at.ensures.same ∙ i.seat;
      same = same_next (suc at.rank) at next i.same low c.args.len p memory q mid i.at i.moved z now
          tried.moved tried.fits;
      later = omega (arith, i.later);
      at = at_next (suc at.rank) at next i.same low c.args.len p memory q mid i.at i.moved z now tried.moved
          tried.fits more;
      moved = done.moved;
    })
