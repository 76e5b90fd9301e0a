use Rattle.std.proofs.Common.{◌≡◌, ◌<◌, ◌-◌, suc, Ok, Err, refl, sym, ap, ◌∙◌, arith}
use Rattle.walk_memory.specs.Inner.Posts.{PostData}
use Rattle.walk_memory.specs.Plain.{carried_all, done_all}
use Rattle.walkx.specs.declared.left.Left.TheVariants.{Held, Late}
use Rattle.pram_board.specs.Inner.Plays.{driving}
use Rattle.pram_board.proofs.Storing.{store_cell, store_done, store_due, store_held, store_last}
use Rattle.pram_board.proofs.Storing.{store_late, store_next, store_same}
use Rattle.pram_board.proofs.Tasks.{at_next, done_from, is_within, leaf_at, not_moved, same_next}
use Rattle.pram_board.proofs.driver.Driver.store_on.Goals as goal

pub loop-stores-init : goal.loop-stores-init
unfolding done_all
loop-stores-init g c =
    let none : c.args.leaf.rank - c.args.leaf.rank ≡ 0 = omega arith in
    rw none (record {
      seat = refl;
      same = refl;
      later = omega arith;
      at = c.requires.at;
      moved = not_moved _ _ _ c.requires.at.walks;
    })

pub carry_until-done-requires-clause-cell : goal.carry_until-done-requires-clause-cell
carry_until-done-requires-clause-cell g c =
    let i = c.loop-stores.invariant in
    let at = c.loop-stores.leaf in
    let stores = c.args.stores in
    let rule = c.requires.rule ∙ sym (ap (λ (a : PostData). a.job.rule) i.same) in
    store_cell c.args.leaf at i.same i.later c.args.len stores.memory.now stores.block.now c.requires.stores
    c.loop-stores.self i.at c.args.rule rule c.write.result c.write.ensures

pub carry_until-done-requires-clause-next : goal.carry_until-done-requires-clause-next
carry_until-done-requires-clause-next g c =
    let i = c.loop-stores.invariant in
    let at = c.loop-stores.leaf in
    let stores = c.args.stores in
    let rule = c.requires.rule ∙ sym (ap (λ (a : PostData). a.job.rule) i.same) in
    store_next c.args.leaf at i.same i.later c.args.len stores.memory.now stores.block.now c.requires.stores
    c.loop-stores.self i.at c.args.rule rule c.write.result c.write.ensures

pub returns-in-Ok-true-clause-same : goal.returns-in-Ok-true-clause-same
returns-in-Ok-true-clause-same g c =
    let i = c.loop-stores.invariant in
    let at = c.loop-stores.leaf in
    let stores = c.args.stores in
    let rule = c.requires.rule ∙ sym (ap (λ (a : PostData). a.job.rule) i.same) in
    store_same c.args.leaf at i.same i.later c.args.len stores.memory.now stores.block.now c.requires.stores
    c.loop-stores.self i.at c.args.rule rule c.write.result c.write.ensures
    c.carry_until-done.new.steps c.carry_until-done.result c.carry_until-done.ensures.plays
    c.facts.ensures ∙ i.seat

pub returns-in-Ok-true-clause-stored : goal.returns-in-Ok-true-clause-stored
returns-in-Ok-true-clause-stored g c =
    let i = c.loop-stores.invariant in
    let at = c.loop-stores.leaf in
    let stores = c.args.stores in
    let rule = c.requires.rule ∙ sym (ap (λ (a : PostData). a.job.rule) i.same) in
    store_due c.args.leaf at i.same i.later c.args.len stores.memory.now stores.block.now c.requires.stores
    c.loop-stores.self i.at c.args.rule rule c.write.result c.write.ensures
    c.carry_until-done.new.steps c.carry_until-done.result c.carry_until-done.ensures.plays
    c.facts.ensures
    (driving c.args.self.now) i.moved (c.in-Ok-true.is ∙ ap Ok c.in-Ok-true.field-0-test)
    c.write-due.result c.write-due.ensures c.rank-rank.result c.rank-rank.ensures

pub returns-in-Err-Late-clause-same : goal.returns-in-Err-Late-clause-same
returns-in-Err-Late-clause-same g c =
    let i = c.loop-stores.invariant in
    let at = c.loop-stores.leaf in
    let stores = c.args.stores in
    let rule = c.requires.rule ∙ sym (ap (λ (a : PostData). a.job.rule) i.same) in
    store_same c.args.leaf at i.same i.later c.args.len stores.memory.now stores.block.now c.requires.stores
    c.loop-stores.self i.at c.args.rule rule c.write.result c.write.ensures
    c.carry_until-done.new.steps c.carry_until-done.result c.carry_until-done.ensures.plays
    c.facts.ensures ∙ i.seat

pub returns-in-Err-Late-clause-stored : goal.returns-in-Err-Late-clause-stored
returns-in-Err-Late-clause-stored g c =
    let i = c.loop-stores.invariant in
    let at = c.loop-stores.leaf in
    let stores = c.args.stores in
    let rule = c.requires.rule ∙ sym (ap (λ (a : PostData). a.job.rule) i.same) in
    let why : c.in-Err-Late.field-0 ≡ Late = rw c.in-Err-Late.is at c.in-Err-Late.field-0-is in
    store_late c.args.leaf at i.same i.later c.args.len stores.memory.now stores.block.now c.requires.stores
    c.loop-stores.self i.at c.args.rule rule c.write.result c.write.ensures
    c.carry_until-done.new.steps c.carry_until-done.result c.carry_until-done.ensures.plays
    c.facts.ensures
    (driving c.args.self.now) i.moved (c.in-Err-Late.is ∙ ap Err why)
    c.rank-rank.result c.rank-rank.ensures

pub unreachable-requires : goal.unreachable-requires
unreachable-requires g c =
    let i = c.loop-stores.invariant in
    let at = c.loop-stores.leaf in
    let stores = c.args.stores in
    let rule = c.requires.rule ∙ sym (ap (λ (a : PostData). a.job.rule) i.same) in
    let why : c.in-Err-Held.field-0 ≡ Held = rw c.in-Err-Held.is at c.in-Err-Held.field-0-is in
    store_held c.args.leaf at i.same i.later c.args.len stores.memory.now stores.block.now c.requires.stores
    c.loop-stores.self i.at c.args.rule rule c.write.result c.write.ensures
    c.carry_until-done.new.steps c.carry_until-done.result c.carry_until-done.ensures.plays
    c.facts.ensures (c.in-Err-Held.is ∙ ap Err why)

pub returns-then-rank-len-clause-same : goal.returns-then-rank-len-clause-same
returns-then-rank-len-clause-same g c =
    let i = c.loop-stores.invariant in
    let at = c.loop-stores.leaf in
    let stores = c.args.stores in
    let rule = c.requires.rule ∙ sym (ap (λ (a : PostData). a.job.rule) i.same) in
    store_same c.args.leaf at i.same i.later c.args.len stores.memory.now stores.block.now c.requires.stores
    c.loop-stores.self i.at c.args.rule rule c.write.result c.write.ensures
    c.carry_until-done.new.steps c.carry_until-done.result c.carry_until-done.ensures.plays
    c.facts.ensures ∙ i.seat

pub returns-then-rank-len-clause-stored : goal.returns-then-rank-len-clause-stored
returns-then-rank-len-clause-stored g c =
    let i = c.loop-stores.invariant in
    let at = c.loop-stores.leaf in
    let stores = c.args.stores in
    let rule = c.requires.rule ∙ sym (ap (λ (a : PostData). a.job.rule) i.same) in
    store_last c.args.leaf at i.same i.later c.args.len stores.memory.now stores.block.now c.requires.stores
    c.loop-stores.self i.at c.args.rule rule c.write.result c.write.ensures
    c.carry_until-done.new.steps c.carry_until-done.result c.carry_until-done.ensures.plays
    c.facts.ensures
    (driving c.args.self.now) i.moved (c.in-Ok-false.is ∙ ap Ok c.in-Ok-false.field-0-test)
    (omega (arith, c.rank-rank.ensures, c.if-rank-len.true))

pub next-leaf-requires-clause-leaf : goal.next-leaf-requires-clause-leaf
next-leaf-requires-clause-leaf g c =
    let i = c.loop-stores.invariant in
    let within = is_within _ _ _ _ i.at in
    let more : suc c.loop-stores.leaf.rank < c.args.len =
    omega (arith, within, c.rank-rank.ensures, c.if-rank-len.false) in
    leaf_at c.loop-stores.leaf c.args.len (suc c.loop-stores.leaf.rank) i.at.leaf i.at.ranks more

pub loop-stores-smaller : goal.loop-stores-smaller
loop-stores-smaller g c =
    let i = c.loop-stores.invariant in
    let within = is_within _ _ _ _ i.at in
    let next = ap (λ (a : PostData). a.rank) c.next-leaf.ensures in
    omega (arith, within, next)

pub loop-stores-preserved : goal.loop-stores-preserved
loop-stores-preserved g c =
    let i = c.loop-stores.invariant in
    let at = c.loop-stores.leaf in
    let stores = c.args.stores in
    let rule = c.requires.rule ∙ sym (ap (λ (a : PostData). a.job.rule) i.same) in
    let within = is_within _ _ _ _ i.at in
    let more : suc at.rank < c.args.len =
    omega (arith, within, c.rank-rank.ensures, c.if-rank-len.false) in
    let from = c.args.leaf in
    let p = driving c.args.self.now in
    let q = driving c.loop-stores.self in
    let z = driving c.carry_until-done.new.steps in
    let memory = stores.memory.now in
    let mid = carried_all from (at.rank - from.rank) memory in
    let now = carried_all from (suc at.rank - from.rank) memory in
    let on = store_done c.args.leaf at i.same i.later c.args.len stores.memory.now stores.block.now c.requires.stores
    c.loop-stores.self i.at c.args.rule rule c.write.result c.write.ensures
    c.carry_until-done.new.steps c.carry_until-done.result c.carry_until-done.ensures.plays
    c.facts.ensures (c.in-Ok-false.is ∙ ap Ok c.in-Ok-false.field-0-test) in
    let done = done_from from.rank from at i.same i.later c.args.len p memory q mid i.at i.moved z now
    on.moved on.fits in
    rw c.next-leaf.ensures (record {
      seat = store_same c.args.leaf at i.same i.later c.args.len stores.memory.now stores.block.now c.requires.stores
          c.loop-stores.self i.at c.args.rule rule c.write.result c.write.ensures
          c.carry_until-done.new.steps c.carry_until-done.result c.carry_until-done.ensures.plays
          c.facts.ensures ∙ i.seat;
      same = same_next from.rank from at i.same i.later c.args.len p memory q mid i.at i.moved z now
          on.moved on.fits;
      later = omega (arith, i.later);
      at = at_next from.rank from at i.same i.later c.args.len p memory q mid i.at i.moved z now
          on.moved on.fits more;
      moved = done.moved;
    })
