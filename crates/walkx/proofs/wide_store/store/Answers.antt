use Rattle.std.proofs.Common.{◌≡◌, true, false, sym, ◌∙◌}
use Rattle.walk_memory.specs.Inner.Posts.{step_of}
use Rattle.walk_memory.specs.Memory.{has_store, is_past}
use Rattle.walkx.proofs.Kept.{keeps, kept_comes, loads, past_stores, still_to_do, store_below}
use Rattle.walkx.proofs.Turning.{comes_to, moved}
use Rattle.walkx.proofs.wide_store.store.Goals as goal

pub returns-then-is_past-clause-plays : goal.returns-then-is_past-clause-plays
returns-then-is_past-clause-plays g c =
    let at = c.args.leaf.now in
    let memo = c.args.memo.now in
    let stands = g.S.Steps.stands at in
    let past : is_past at.phase memo ≡ true =
    rw c.phase.ensures.value at (sym c.is_past.ensures ∙ c.if-is_past.true) in
    record {
      on = λ from after next here. moved stands from _ _ _
          (past_stores at memo c.requires.second after next past) here;
    }

pub returns-then-has_store-clause-past : goal.returns-then-has_store-clause-past
returns-then-has_store-clause-past g c = λ past.
    let at = c.args.leaf.now in
    let memo = c.args.memo.now in
    let is : has_store (step_of at) memo ≡ true =
    rw c.step.ensures.value at (sym c.has_store.ensures ∙ c.if-has_store.true) in
    absurd (let no = sym past ∙ still_to_do at memo c.requires.second is in cc)

pub kept-requires : goal.kept-requires
kept-requires g c = store_below c.args.leaf.now.job c.args.memo.now c.requires.memo

pub returns-then-has_store-clause-plays : goal.returns-then-has_store-clause-plays
returns-then-has_store-clause-plays g c =
    let at = c.args.leaf.now in
    let memo = c.args.memo.now in
    let stands = g.S.Steps.stands at in
    let is : has_store (step_of at) memo ≡ true =
    rw c.step.ensures.value at (sym c.has_store.ensures ∙ c.if-has_store.true) in
    let past = still_to_do at memo c.requires.second is in
    rw c.kept.ensures.value (record {
      on = λ from after next here. comes_to stands from _ _ _ (kept_comes at after next memo.store)
          (moved stands from _ _ _ (keeps at memo c.requires.second after next past is) here);
    })

pub load_store-requires : goal.load_store-requires
load_store-requires g c =
    let at = c.args.leaf.now in
    let memo = c.args.memo.now in
    let stands = g.S.Steps.stands at in
    let past : is_past at.phase memo ≡ false =
    rw c.phase.ensures.value at (sym c.is_past.ensures ∙ c.if-is_past.false) in
    let is : has_store (step_of at) memo ≡ false =
    rw c.step.ensures.value at (sym c.has_store.ensures ∙ c.if-has_store.false) in
    let r = c.requires.next in
    record {
      next = record {
        from = r.from;
        after = r.after;
        next = r.next;
        here = moved stands r.from _ _ _ (loads at memo c.requires.second r.after r.next past is)
            r.here;
      };
    }

pub returns-else-is_past-clause-plays : goal.returns-else-is_past-clause-plays
returns-else-is_past-clause-plays g c =
    let at = c.args.leaf.now in
    let memo = c.args.memo.now in
    let stands = g.S.Steps.stands at in
    let past : is_past at.phase memo ≡ false =
    rw c.phase.ensures.value at (sym c.is_past.ensures ∙ c.if-is_past.false) in
    let is : has_store (step_of at) memo ≡ false =
    rw c.step.ensures.value at (sym c.has_store.ensures ∙ c.if-has_store.false) in
    record {
      on = λ from after next here. c.load_store.ensures.plays.on from after next
          (moved stands from _ _ _ (loads at memo c.requires.second after next past is) here);
    }
