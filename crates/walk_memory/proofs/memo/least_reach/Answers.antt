use Rattle.std.proofs.Common.{◌≡◌, ◌+◌, ◌-◌, ℕ, refl, sym, ap, subst, ◌∙◌, arith}
use Rattle.walk_memory.specs.Blocks.{least_of, reach_from_phase}
use Rattle.walk_memory.proofs.Blocks.{least_next}
use Rattle.walk_memory.proofs.memo.least_reach.Goals as goal

pub loop-k-init : goal.loop-k-init
loop-k-init c = λ memory same. refl

pub loop-k-preserved : goal.loop-k-preserved
loop-k-preserved c = λ memory same.
    let lanes = c.args.lanes in
    let k = c.loop-k.k in
    rw c.min-least.ensures (least_next c.args.phase memory c.loop-k.least c.reach_in.result
    (lanes.end - k) (lanes.end - (k + 1)) (lanes.first + k) (lanes.first + (k + 1)) (omega arith)
    (omega arith) (c.reach_in.ensures ∙ ap (reach_from_phase c.args.phase)
    (sym (same k (omega arith) c.loop-k-test.true))) ∙ c.loop-k.invariant memory same)

pub returns : goal.returns
returns c = λ memory same.
    let lanes = c.args.lanes in
    let none : lanes.end - c.loop-k.k ≡ 0 = omega arith in
    subst (λ (n : ℕ). least_of c.loop-k.least c.args.phase n (lanes.first + c.loop-k.k) memory
    ≡ least_of c.args.most c.args.phase (lanes.end - lanes.start) (lanes.first + lanes.start) memory)
    none (c.loop-k.invariant memory same)
