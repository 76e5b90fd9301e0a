use Rattle.std.proofs.Common.{◌≡◌, ◌≢◌, ◌%◌, ◌-◌, ◌<◌, suc, ℕ, List, Some, None, slice_index, refl, sym}
use Rattle.std.proofs.Common.{ap, subst, ◌∙◌, arith}
use Rattle.std.specs.Prelude.{slice_set}
use Rattle.walk_memory.specs.declared.memo.Memo.{Memo}
use Rattle.walk_memory.specs.Inner.Posts.{PostData, at_rank, processor_of}
use Rattle.walk_memory.specs.Memory.{at_start}
use Rattle.walk_memory.specs.Plain.{done_all}
use Rattle.pram_board.specs.Inner.Plain.{by_lanes}
use Rattle.pram_board.specs.Inner.Plays.{AtTask, DoneTo, Moved, driving, in_block, post_task}
use Rattle.pram_board.proofs.Doing.{at_alike, by_there, done_none, late_done, more_done, more_next}
use Rattle.pram_board.proofs.Tasks.{is_within, leaf_at, not_moved}
use Rattle.pram_board.proofs.driver.Driver.plain_all.Goals as goal

pub loop-value-init : goal.loop-value-init
loop-value-init g c =
    let at = c.args.leaf in
    let p = driving c.args.self.now in
    let memory = c.args.memory.now in
    let none = done_none at (by_lanes (g.P.PlainTasks.does c.args.plain.now at) c.args.values.now
    memory) memory in record {
      seat = refl;
      same = refl;
      later = omega arith;
      at = subst (λ (m : List Memo). AtTask at c.args.len p m) none c.requires.at;
      moved = subst (λ (m : List Memo). Moved (post_task at) p (in_block at at.rank memory) p
          (in_block at at.rank m)) none (not_moved _ _ _ c.requires.at.walks);
    }

pub plain_part-requires-clause-at : goal.plain_part-requires-clause-at
plain_part-requires-clause-at g c =
    let i = c.loop-value.invariant in
    let from = c.args.leaf in
    let at = c.loop-value.leaf in
    let does = g.P.PlainTasks.does c.args.plain.now in
    let ranks = g.met.P.PlainTasks.ranks c.args.plain.now in
    let values = c.loop-value.values in
    let memory = c.args.memory.now in
    let q = driving c.loop-value.self in
    at_alike does ranks from at i.same i.later c.args.len values memory q i.at

pub plain_part-requires-clause-plain : goal.plain_part-requires-clause-plain
plain_part-requires-clause-plain g c =
    let i = c.loop-value.invariant in
    let from = c.args.leaf in
    let at = c.loop-value.leaf in
    let does = g.P.PlainTasks.does c.args.plain.now in
    let ranks = g.met.P.PlainTasks.ranks c.args.plain.now in
    let values = c.loop-value.values in
    let memory = c.args.memory.now in
    let q = driving c.loop-value.self in
    by_there does ranks from at i.same i.later c.args.len values memory q i.at
    g.P.PlainTasks.by c.args.plain.now c.requires.plain

pub returns-in-None-clause-done : goal.returns-in-None-clause-done
returns-in-None-clause-done g c =
    let i = c.loop-value.invariant in
    let from = c.args.leaf in
    let at = c.loop-value.leaf in
    let does = g.P.PlainTasks.does c.args.plain.now in
    let ranks = g.met.P.PlainTasks.ranks c.args.plain.now in
    let values = c.loop-value.values in
    let memory = c.args.memory.now in
    let q = driving c.loop-value.self in
    let p = driving c.args.self.now in
    let z = driving c.plain_part.new.self in
    subst (λ (rank : ℕ). DoneTo from c.args.len p memory rank z
    (slice_set (done_all from (rank - from.rank) (by_lanes (does from) values memory) memory)
    (processor_of (at_rank from rank)) at_start)) (sym c.rank-rank.ensures)
    (late_done does ranks from at i.same i.later c.args.len values memory q i.at p i.moved z None
    c.in-None.ensures.done refl)

pub returns-then-rank-len-clause-done : goal.returns-then-rank-len-clause-done
returns-then-rank-len-clause-done g c =
    let i = c.loop-value.invariant in
    let from = c.args.leaf in
    let at = c.loop-value.leaf in
    let does = g.P.PlainTasks.does c.args.plain.now in
    let ranks = g.met.P.PlainTasks.ranks c.args.plain.now in
    let values = c.loop-value.values in
    let memory = c.args.memory.now in
    let q = driving c.loop-value.self in
    let p = driving c.args.self.now in
    let z = driving c.plain_part.new.self in
    let other = c.set_lane.new.values in
    let here : slice_index other (processor_of at % 64) ≡ c.in-Some.value =
    subst (λ (k : ℕ). slice_index other (k % 64) ≡ c.in-Some.value) c.processor.ensures.value
    c.set_lane.ensures.here in
    let others = subst (λ (k : ℕ). (j : ℕ) → j ≢ k % 64 →
    slice_index other j ≡ slice_index values j) c.processor.ensures.value
    c.set_lane.ensures.others in
    subst (λ (rank : ℕ). DoneTo from c.args.len p memory rank z
    (done_all from (suc rank - from.rank) (by_lanes (does from) other memory) memory))
    (sym c.rank-rank.ensures)
    (more_done does ranks from at i.same i.later c.args.len values memory q i.at p i.moved z
    (Some c.in-Some.value) c.in-Some.ensures.done c.in-Some.value refl other here others)

pub next-leaf-requires-clause-leaf : goal.next-leaf-requires-clause-leaf
next-leaf-requires-clause-leaf g c =
    let i = c.loop-value.invariant in
    let within = is_within _ _ _ _ i.at in
    let more : suc c.loop-value.leaf.rank < c.args.len =
    omega (arith, within, c.rank-rank.ensures, c.if-rank-len.false) in
    leaf_at c.loop-value.leaf c.args.len (suc c.loop-value.leaf.rank) i.at.leaf i.at.ranks more

pub loop-value-smaller : goal.loop-value-smaller
loop-value-smaller g c =
    let i = c.loop-value.invariant in
    let within = is_within _ _ _ _ i.at in
    let next = ap (λ (a : PostData). a.rank) c.next-leaf.ensures in
    omega (arith, within, next)

pub loop-value-preserved : goal.loop-value-preserved
loop-value-preserved g c =
    let i = c.loop-value.invariant in
    let from = c.args.leaf in
    let at = c.loop-value.leaf in
    let does = g.P.PlainTasks.does c.args.plain.now in
    let ranks = g.met.P.PlainTasks.ranks c.args.plain.now in
    let values = c.loop-value.values in
    let memory = c.args.memory.now in
    let q = driving c.loop-value.self in
    let p = driving c.args.self.now in
    let z = driving c.plain_part.new.self in
    let other = c.set_lane.new.values in
    let here : slice_index other (processor_of at % 64) ≡ c.in-Some.value =
    subst (λ (k : ℕ). slice_index other (k % 64) ≡ c.in-Some.value) c.processor.ensures.value
    c.set_lane.ensures.here in
    let others = subst (λ (k : ℕ). (j : ℕ) → j ≢ k % 64 →
    slice_index other j ≡ slice_index values j) c.processor.ensures.value
    c.set_lane.ensures.others in
    let within = is_within _ _ _ _ i.at in
    let more : suc at.rank < c.args.len =
    omega (arith, within, c.rank-rank.ensures, c.if-rank-len.false) in
    let done = more_done does ranks from at i.same i.later c.args.len values memory q i.at p i.moved
    z (Some c.in-Some.value) c.in-Some.ensures.done c.in-Some.value refl other here others in
    rw c.next-leaf.ensures (record {
      seat = c.plain_part.ensures.same ∙ i.seat;
      same = ap (λ (a : PostData). at_rank a (suc at.rank)) i.same;
      later = omega (arith, i.later);
      at = more_next does ranks from at i.same i.later c.args.len values memory q i.at p i.moved z
          (Some c.in-Some.value) c.in-Some.ensures.done c.in-Some.value refl other here others more;
      moved = done.moved;
    })
