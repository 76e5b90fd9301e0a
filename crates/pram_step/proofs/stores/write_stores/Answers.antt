use Rattle.std.proofs.Common.{◌≡◌, ◌+◌, ◌-◌, subst, arith}
use Rattle.pram_step.specs.Inner.Marks.{AreStoredFrom}
use Rattle.pram_step.proofs.Marking.{AreStored_none, AreStored_more}
use Rattle.pram_step.proofs.stores.write_stores.Goals as goal

pub loop-k-init : goal.loop-k-init
loop-k-init c = AreStored_none c.args.asked.now c.args.places.now

pub loop-k-preserved : goal.loop-k-preserved
loop-k-preserved c =
    let n = c.loop-k.k - 1 in
    let same : c.loop-k.k ≡ n + 1 = omega arith in
    AreStored_more c.args.asked.now c.args.places.now c.loop-k.places n (omega arith)
    (c.requires n _ (omega arith))
    (subst (λ m. AreStoredFrom c.args.asked.now m c.args.places.now c.loop-k.places) same
    c.loop-k.invariant)
