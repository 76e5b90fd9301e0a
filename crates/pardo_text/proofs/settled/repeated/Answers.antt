use Rattle.std.proofs.Common.{◌%◌, ℕ, length, refl}
use Rattle.std.specs.Prelude.{slice_index}
use Rattle.pardo_text.proofs.Refilling.{mapped_more}
use Rattle.pardo_text.proofs.settled.repeated.Goals as goal

pub loop-place-preserved : goal.loop-place-preserved
loop-place-preserved c =
    mapped_more
    (λ (place : ℕ). slice_index c.args.values.now (place % length c.args.values.now))
    c.loop-place.all.items _ c.loop-place.place _ c.loop-place.invariant
    c.in_ok-push.ensures.items refl
