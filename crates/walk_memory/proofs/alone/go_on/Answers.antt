use Rattle.std.proofs.Common.{ℕ, suc, ◌+◌, ◌-◌, ◌≤◌, ◌<◌, sym, ap, ◌∙◌, refl, arith}
use Rattle.walk_memory.specs.declared.memo.Memo.{Memo}
use Rattle.walk_memory.specs.Lanes.{lane}
use Rattle.walk_memory.specs.Memory.{goes_on_alone, steps_left}
use Rattle.walk_memory.proofs.GoingAlone.{goes_one, last_stays, none_more, stays_here, stored_stays}
use Rattle.walk_memory.proofs.GoingAlone.{to_the_end}
use Rattle.walk_memory.proofs.alone.go_on.Goals as goal
use Rattle.walk_memory.proofs.alone.go_on.Goals.{then-has_store-via-then-has_store}
use Rattle.walk_memory.proofs.alone.go_on.Goals.{then-has_store-via-else-has_store+then-steps-block}

pub returns-then-has_store-clause-same : goal.returns-then-has_store-clause-same
returns-then-has_store-clause-same c =
    let job = c.args.job.now in
    let full = suc (steps_left (lane c.args.block.now c.args.k)) in
    let memo = lane c.loop.block c.args.k in
    elim c.then-has_store.branch [
      | then-has_store-via-then-has_store w ↦
          sym (stored_stays job c.args.i memo (full - c.loop.counter)
          (sym c.has_store.ensures ∙ w.if-has_store.true)) ∙ c.loop.invariant.0
      | then-has_store-via-else-has_store+then-steps-block w ↦
          let last : job.steps ≤ memo.step =
          omega (arith, w.if-steps-block.true, c.loop.invariant.1) in
          sym (last_stays job c.args.i memo (full - c.loop.counter) last)
          ∙ c.loop.invariant.0
    ]

pub returns-in-None-clause-same : goal.returns-in-None-clause-same
returns-in-None-clause-same c =
    let job = c.args.job.now in
    let full = suc (steps_left (lane c.args.block.now c.args.k)) in
    let memo = lane c.loop.block c.args.k in
    let before : memo.step < job.steps =
    omega (arith, c.if-steps-block.false, c.loop.invariant.1) in
    c.stand_after.ensures.same ∙ ap (λ (n : ℕ). record memo { step = n }) c.loop.invariant.1
    ∙ sym (to_the_end job c.args.i memo (full - c.loop.counter)
    (full - (c.loop.counter + 1)) (omega (arith, c.loop-test.true, c.steps_left-left.ensures)) (sym c.has_store.ensures ∙ c.if-has_store.false)
    before c.in-None.ensures) ∙ c.loop.invariant.0

pub returns-then-not-go_one-clause-same : goal.returns-then-not-go_one-clause-same
returns-then-not-go_one-clause-same c =
    let job = c.args.job.now in
    let full = suc (steps_left (lane c.args.block.now c.args.k)) in
    let memo = lane c.loop.block c.args.k in
    let before : memo.step < job.steps =
    omega (arith, c.if-steps-block.false, c.loop.invariant.1) in
    c.if-not-go_one.ensures.not refl
    ∙ sym (stays_here job c.args.i memo (full - c.loop.counter)
    (full - (c.loop.counter + 1)) (omega (arith, c.loop-test.true, c.steps_left-left.ensures)) (sym c.has_store.ensures ∙ c.if-has_store.false)
    before c.in-Some.instr.now c.in-Some.ensures
    (sym c.if-not-go_one.ensures.value)) ∙ c.loop.invariant.0

pub loop-preserved : goal.loop-preserved
loop-preserved c =
    let job = c.args.job.now in
    let full = suc (steps_left (lane c.args.block.now c.args.k)) in
    let memo = lane c.loop.block c.args.k in
    let before : memo.step < job.steps =
    omega (arith, c.if-steps-block.false, c.loop.invariant.1) in (
      ap (λ (m : Memo). goes_on_alone (full - (c.loop.counter + 1)) job c.args.i m)
          (c.if-not-go_one.ensures.on refl)
          ∙ sym (goes_one job c.args.i memo (full - c.loop.counter)
          (full - (c.loop.counter + 1)) (omega (arith, c.loop-test.true, c.steps_left-left.ensures)) (sym c.has_store.ensures ∙ c.if-has_store.false)
          before c.in-Some.instr.now c.in-Some.ensures
          (sym c.if-not-go_one.ensures.value)) ∙ c.loop.invariant.0,
      c.loop.invariant.1,
      λ j other. c.if-not-go_one.ensures.others j other ∙ c.loop.invariant.2 j other,
    )

pub returns-clause-same : goal.returns-clause-same
returns-clause-same c =
    let job = c.args.job.now in
    let full = suc (steps_left (lane c.args.block.now c.args.k)) in
    sym (none_more job c.args.i (lane c.loop.block c.args.k) (full - c.loop.counter)
    (omega (arith, c.loop-test.false, c.steps_left-left.ensures))) ∙ c.loop.invariant.0
