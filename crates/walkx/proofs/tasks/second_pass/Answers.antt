use Rattle.std.proofs.Common.{Err, refl}
use Rattle.walkx.specs.WideParts.{store_carried}
use Rattle.walk_memory.specs.Turned.{stored}
use Rattle.walkx.proofs.Passes.{next_as, plays_as}
use Rattle.walkx.proofs.Passing.{passed}
use Rattle.walkx.proofs.Settling.{learned_comes}
use Rattle.walkx.proofs.Turning.{comes_to}
use Rattle.walkx.proofs.WidePasses.{carry_is}
use Rattle.walkx.proofs.tasks.second_pass.Goals as goal

pub store-requires-clause-next : goal.store-requires-clause-next
store-requires-clause-next g c =
    let at = c.args.leaf.now in
    let memo = c.args.memo.now in
    let r = next_as (g.S.Steps.stands at) _ _ _ (λ late next. carry_is at memo late next)
    c.requires.next in
    record {
      from = r.from;
      after = r.next memo;
      next = λ write. store_carried at.job.rule at write (r.next memo)
          (λ done. r.next (stored at memo));
      here = r.here;
    }

pub returns-in_err-write-clause-past : goal.returns-in_err-write-clause-past
returns-in_err-write-clause-past g c = λ past. (refl, (c.in_err-write.ensures.past past).1)

pub returns-in_err-write-clause-plays : goal.returns-in_err-write-clause-plays
returns-in_err-write-clause-plays g c =
    let at = c.args.leaf.now in
    let memo = c.args.memo.now in
    let stands = g.S.Steps.stands at in
    rw (passed c.from_residual.result _ c.from_residual.ensures.1)
    (plays_as stands _ _ _ (λ late next. carry_is at memo late next) _ _ (record {
      on = λ from late next here. comes_to stands from _ _ _ (learned_comes (Err _) memo late next)
          (c.in_err-write.ensures.plays.on from (next memo)
          (λ write. store_carried at.job.rule at write (next memo) (λ done. next (stored at memo)))
          here);
    }))

pub carry_store-requires-clause-next : goal.carry_store-requires-clause-next
carry_store-requires-clause-next g c =
    let at = c.args.leaf.now in
    let memo = c.args.memo.now in
    let r = next_as (g.S.Steps.stands at) _ _ _ (λ late next. carry_is at memo late next)
    c.requires.next in
    record {
      from = r.from;
      after = r.next memo;
      next = λ done. r.next (stored at memo);
      here = c.in_ok-write.ensures.plays.on r.from (r.next memo)
          (λ write. store_carried at.job.rule at write (r.next memo)
          (λ done. r.next (stored at memo))) r.here;
    }

pub returns-in_err-carry_store-clause-past : goal.returns-in_err-carry_store-clause-past
returns-in_err-carry_store-clause-past g c =
    λ past. absurd (let late = (c.in_ok-write.ensures.past past).0 in cc)

pub returns-in_err-carry_store-clause-plays : goal.returns-in_err-carry_store-clause-plays
returns-in_err-carry_store-clause-plays g c =
    let at = c.args.leaf.now in
    let memo = c.args.memo.now in
    let stands = g.S.Steps.stands at in
    rw (passed c.from_residual-in_err-carry_store.result _
    c.from_residual-in_err-carry_store.ensures.1)
    (plays_as stands _ _ _ (λ late next. carry_is at memo late next) _ _ (record {
      on = λ from late next here. comes_to stands from _ _ _ (learned_comes (Err _) memo late next)
          (c.in_err-carry_store.ensures.plays.on from (next memo) (λ done. next (stored at memo))
          (c.in_ok-write.ensures.plays.on from (next memo)
          (λ write. store_carried at.job.rule at write (next memo) (λ done. next (stored at memo)))
          here));
    }))

pub returns-clause-past : goal.returns-clause-past
returns-clause-past g c = λ past. absurd (let late = (c.in_ok-write.ensures.past past).0 in cc)

pub returns-clause-plays : goal.returns-clause-plays
returns-clause-plays g c =
    let at = c.args.leaf.now in
    let memo = c.args.memo.now in
    let stands = g.S.Steps.stands at in
    rw c.carry.ensures (plays_as stands _ _ _ (λ late next. carry_is at memo late next) _ _
    (record {
      on = λ from late next here.
          c.in_ok-carry_store.ensures.plays.on from (next memo) (λ done. next (stored at memo))
          (c.in_ok-write.ensures.plays.on from (next memo)
          (λ write. store_carried at.job.rule at write (next memo) (λ done. next (stored at memo)))
          here);
    }))
