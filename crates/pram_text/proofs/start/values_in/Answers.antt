use Rattle.std.proofs.Common.{◌<◌, ◌∙◌, sym, length, arith}
use Rattle.pram_text.proofs.Values.{values_more}
use Rattle.pram_text.proofs.start.values_in.Goals as goal

pub loop-word-preserved : goal.loop-word-preserved
loop-word-preserved c =
    let few : length c.loop-word.values.items < c.args.room =
    omega (arith, c.loop-word.values.ok.0) in
    values_more c.args.room _ _ _ _ c.loop-word.values.items _ _ c.in-Some.ensures
    (sym c.number_within.ensures.value ∙ c.in_ok-value.was) few c.in_ok-push.ensures.items
    c.loop-word.invariant.1
