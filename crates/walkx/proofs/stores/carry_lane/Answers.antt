use Rattle.std.proofs.Common.{ℕ, Err}
use Rattle.std.specs.Prelude.{slice_index}
use Rattle.walk_memory.specs.Lanes.{lane}
use Rattle.walk_memory.specs.Plain.{carried_in}
use Rattle.walk_memory.proofs.ClaimWords.{cell_of}
use Rattle.walkx.proofs.Passing.{passed}
use Rattle.walkx.proofs.Settling.{learned_comes}
use Rattle.walkx.proofs.Storing.{carries}
use Rattle.walk_memory.proofs.Storing.{cell_fits, lane_store}
use Rattle.walkx.proofs.Turning.{comes_to, moved}
use Rattle.walkx.proofs.stores.carry_lane.Goals as goal

pub carry_store-requires-clause-cell : goal.carry_store-requires-clause-cell
carry_store-requires-clause-cell g c =
    let at = c.args.leaf.now in
    let block = c.args.block.now in
    let k = c.args.k in
    let write : ℕ × ℕ = (slice_index block.cell k, slice_index block.value k) in
    cell_of at write.0 c.phase-phase.ensures.limits.board
    (cell_fits at.job (lane block k) write c.requires.memo
    (lane_store block k c.requires.store.some))

pub carry_store-requires-clause-next : goal.carry_store-requires-clause-next
carry_store-requires-clause-next g c =
    let at = c.args.leaf.now in
    let block = c.args.block.now in
    let k = c.args.k in
    let memo = lane block k in
    let stands = g.S.Steps.stands at in
    let r = c.requires.next in
    record {
      from = r.from;
      after = r.next memo;
      next = λ done. r.next (carried_in at memo);
      here = moved stands r.from _ _ _ (carries at memo c.requires.store _ _
          (lane_store block k c.requires.store.some) r.after r.next) r.here;
    }

pub returns-in_err-carry_store-clause-plays : goal.returns-in_err-carry_store-clause-plays
returns-in_err-carry_store-clause-plays g c =
    let at = c.args.leaf.now in
    let block = c.args.block.now in
    let k = c.args.k in
    let memo = lane block k in
    let stands = g.S.Steps.stands at in
    rw (passed c.from_residual.result _ c.from_residual.ensures.1) (record {
      on = λ from late next here. comes_to stands from _ _ _ (learned_comes (Err _) memo late next)
          (c.in_err-carry_store.ensures.plays.on from (next memo)
          (λ done. next (carried_in at memo))
          (moved stands from _ _ _ (carries at memo c.requires.store _ _
          (lane_store block k c.requires.store.some) late next) here));
    })

pub returns-clause-plays : goal.returns-clause-plays
returns-clause-plays g c =
    let at = c.args.leaf.now in
    let block = c.args.block.now in
    let k = c.args.k in
    let memo = lane block k in
    let stands = g.S.Steps.stands at in
    rw (c.carry.ensures.same, c.phase-phase.ensures.value) (record {
      on = λ from late next here. c.in_ok-carry_store.ensures.plays.on from (next memo)
          (λ done. next (carried_in at memo))
          (moved stands from _ _ _ (carries at memo c.requires.store _ _
          (lane_store block k c.requires.store.some) late next) here);
    })
