use Rattle.std.proofs.Common.{◌≡◌, ◌+◌, ◌-◌, ◌∙◌, ℕ, List, ◌++◌, length, take}
use Rattle.std.proofs.Common.{drop, sym, ap, arith, take-add, length-drop}
use Rattle.std.proofs.lemmas.List.{length-take, take_all}
use Rattle.std.proofs.KnownBytes.{Appends-trans}
use Rattle.pram_streams.proofs.transfer.put.Goals as goal

-- what was sent, and then a front of what was left
take-sent : (bytes : List ℕ) (sent count : ℕ) → take (sent + count) bytes
    ≡ take sent bytes ++ take count (take (length bytes - sent) (drop sent bytes))
take-sent bytes sent count =
    let left : take (length bytes - sent) (drop sent bytes) ≡ drop sent bytes =
    take_all _ _ (omega (arith, length-drop sent bytes)) in
    take-add sent count bytes ∙ ap (λ (l : List ℕ). take sent bytes ++ take count l) (sym left)

pub loop-sent-preserved : goal.loop-sent-preserved
loop-sent-preserved g c =
    let kept = c.loop-sent.invariant in
    record {
      within =
          omega (arith, kept.within, simp (length-take, length-drop) at c.in_ok-sent.ensures.bound);
      appends = rw (take-sent c.args.bytes.now c.loop-sent.sent c.in_ok-sent.field-0)
          (Appends-trans _ _ _ _ _ kept.appends c.in_ok-sent.ensures.bytes);
      unfailed = rw c.in_ok-sent.ensures.failed kept.unfailed;
    }
