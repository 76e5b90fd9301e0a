use Rattle.std.proofs.Common.{arith, length-append}
use Rattle.std.proofs.lemmas.List.{length-take}
use Rattle.std.proofs.KnownBytes.{Consumes-trans}
use Rattle.pram_streams.proofs.transfer.take.Goals as goal

pub returns-then-count-len-clause-too_large : goal.returns-then-count-len-clause-too_large
returns-then-count-len-clause-too_large g c = λ _.
    let items = c.loop-count.bytes.ok.0 in
    let bound = c.in-Ok.ensures.bound in (
      _,
      simp (length-append, length-take) (omega (arith, items, bound)),
      Consumes-trans _ _ _ _ _ c.loop-count.invariant.reads c.in-Ok.ensures.bytes.0,
    )

pub returns-then-count-len-clause-reads : goal.returns-then-count-len-clause-reads
returns-then-count-len-clause-reads g c =
    (_, Consumes-trans _ _ _ _ _ c.loop-count.invariant.reads c.in-Ok.ensures.bytes.0)

pub returns-then-is_err-clause-reads : goal.returns-then-is_err-clause-reads
returns-then-is_err-clause-reads g c =
    (_, Consumes-trans _ _ _ _ _ c.loop-count.invariant.reads c.in-Ok.ensures.bytes.0)
