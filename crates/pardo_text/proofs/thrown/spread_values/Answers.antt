use Rattle.std.proofs.Common.{◌≡◌, ◌+◌, ◌-◌, suc, arith}
use Rattle.pardo_text.specs.Thrown.{spread_value}
use Rattle.pardo_text.proofs.Throwing.{thrown_next}
use Rattle.pardo_text.proofs.thrown.spread_values.Goals as goal

pub loop-place-preserved : goal.loop-place-preserved
loop-place-preserved c =
    let more : c.args.places - c.loop-place.place
    ≡ suc (c.args.places - (c.loop-place.place + 1)) = omega (arith, c.loop-place-test.true) in
    thrown_next (spread_value c.args.is_sorted c.args.places c.args.below) _ _ _
    c.loop-place.place _ _ c.loop-place.seed _ _ more c.next_seed-seed.ensures
    c.spread_value.ensures c.in_ok-push.ensures.items c.loop-place.invariant
