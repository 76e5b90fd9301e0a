use Rattle.std.proofs.Common.{◌≡◌, ◌<◌, Some, false, slice_get, sym, ap, ◌∙◌, inl, inr, arith}
use Rattle.std.specs.Prelude.{is_some}
use Rattle.std.proofs.lemmas.Bool.{cases_Bool}
use Rattle.walk_memory.specs.declared.memo.Memo.{Memo}
use Rattle.walk_memory.specs.Lanes.{lane}
use Rattle.walk_memory.specs.Memory.{gone_on}
use Rattle.walk_memory.proofs.AsFar.{one_on}
use Rattle.walk_memory.proofs.GoingAlone.{still_goes}
use Rattle.walk_memory.proofs.alone.go_one_at.Goals as goal

pub returns-then-block-k-2-clause-far : goal.returns-then-block-k-2-clause-far
returns-then-block-k-2-clause-far c =
    let job = c.args.job.now in
    let instr = c.args.stand.instr.now in
    let memo = lane c.args.block.now c.args.k in
    let here : memo.own.counter ≡ c.args.stand.counter = c.if-block-k.true in
    let some : slice_get job.code memo.own.counter ≡ Some instr =
    ap (slice_get job.code) here ∙ c.requires.stand in
    let none : is_some memo.store ≡ false = sym c.if-not-has_store.ensures in
    let before : memo.step < job.steps =
    omega (arith, c.if-block-k-2.true, c.steps-steps.ensures.value) in
    elim (cases_Bool c.go_one.result) [
      | inl went ↦ ap (λ (m : Memo). gone_on job c.args.i m) (c.go_one.ensures.on went)
          ∙ one_on job c.args.i memo instr some (still_goes job memo.own instr some) none before
          (sym c.go_one.ensures.value ∙ went)
      | inr stayed ↦ ap (λ (m : Memo). gone_on job c.args.i m) (c.go_one.ensures.not stayed)
    ]
