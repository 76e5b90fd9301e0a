use Rattle.std.proofs.Common.{◌≡◌, ℕ, ◌+◌, suc, length, sym, ap, subst, ◌∙◌, arith}
use Rattle.walk_memory.specs.declared.memo.Own.{Own}
use Rattle.walkx.specs.Places.{LandedTo}
use Rattle.walkx.proofs.Passing.{passed}
use Rattle.walkx.proofs.Placed.{counter_next, counter_plays, counter_tells, on_ok, register_done}
use Rattle.walkx.proofs.Placed.{register_left, register_next}
use Rattle.walkx.proofs.own_in.land_in.Goals as goal

pub land_register_in-requires-clause-next : goal.land_register_in-requires-clause-next
land_register_in-requires-clause-next g c =
    register_next (g.S.Steps.stands c.args.leaf.now) c.args.leaf.now c.args.steps.now
    c.args.block.now c.args.landing c.loop-r.r c.loop-r.steps c.loop-r.block c.loop-r.invariant
    (omega (arith, c.loop-r-test.true)) c.requires.next

pub returns-in_err-land_register_in-clause-plays :
    goal.returns-in_err-land_register_in-clause-plays
returns-in_err-land_register_in-clause-plays g c =
    rw (passed c.from_residual.result _ c.from_residual.ensures.1)
    (register_left (g.S.Steps.stands c.args.leaf.now) c.args.leaf.now c.args.steps.now
    c.args.block.now c.args.landing c.loop-r.r c.loop-r.steps c.loop-r.block c.loop-r.invariant
    (omega (arith, c.loop-r-test.true)) _ _ c.in_err-land_register_in.ensures.plays)

pub loop-r-preserved : goal.loop-r-preserved
loop-r-preserved g c =
    let stands = g.S.Steps.stands c.args.leaf.now in
    let e : suc c.loop-r.r ≡ c.loop-r.r + 1 = omega arith in
    subst (λ (n : ℕ). LandedTo stands c.args.leaf.now c.args.steps.now c.args.block.now
    c.args.landing n
    c.land_register_in.new.steps c.land_register_in.new.block) e
    (register_done stands c.args.leaf.now c.args.steps.now c.args.block.now
    c.args.landing c.loop-r.r c.loop-r.steps c.loop-r.block c.loop-r.invariant
    (omega (arith, c.loop-r-test.true))
    _ _ _ c.in_ok-land_register_in.ensures.others c.in_ok-land_register_in.ensures.told
    c.in_ok-land_register_in.ensures.four c.in_ok-land_register_in.ensures.plays)

pub land_counter_in-requires : goal.land_counter_in-requires
land_counter_in-requires g c =
    let four : c.loop-r.r ≡ 4 = omega (arith, c.loop-r-test.false, c.loop-r.auto.r-end) in
    record {
      next = counter_next (g.S.Steps.stands c.args.leaf.now) c.args.leaf.now c.args.steps.now
          c.args.block.now c.args.landing c.loop-r.r c.loop-r.steps c.loop-r.block
          c.loop-r.invariant four c.requires.next;
    }

pub returns-clause-told : goal.returns-clause-told
returns-clause-told g c =
    let block = c.args.block.now in
    let four : c.loop-r.r ≡ 4 = omega (arith, c.loop-r-test.false, c.loop-r.auto.r-end) in
    let held : length c.own.result.registers ≡ 4 = omega arith in
    on_ok c.land_counter_in.result
    (counter_tells (g.S.Steps.stands c.args.leaf.now) c.args.leaf.now c.args.steps.now
    block c.args.landing c.loop-r.r c.loop-r.steps c.loop-r.block c.loop-r.invariant four _
    (ap (λ (o : Own). length o.registers) (sym c.own.ensures) ∙ held)
    c.land_counter_in.ensures.told)

pub returns-clause-plays : goal.returns-clause-plays
returns-clause-plays g c =
    let four : c.loop-r.r ≡ 4 = omega (arith, c.loop-r-test.false, c.loop-r.auto.r-end) in
    counter_plays (g.S.Steps.stands c.args.leaf.now) c.args.leaf.now c.args.steps.now
    c.args.block.now
    c.args.landing c.loop-r.r c.loop-r.steps c.loop-r.block c.loop-r.invariant four _ _
    c.land_counter_in.ensures.plays
