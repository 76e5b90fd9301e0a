use Rattle.std.proofs.Common.{◌≡◌, ℕ, List, get_or, length, ap, subst, ◌∙◌}
use Rattle.std.proofs.Common.{inl, inr, arith}
use Rattle.std.proofs.lemmas.Bool.{cases_lt}
use Rattle.std.proofs.lemmas.List.{get_or_default}
use Rattle.pram_job.specs.declared.instr.Instr.{Instr}
use Rattle.pram_machine.specs.Machine.{counter, halted, IsStopped}
use Rattle.pram_step.proofs.last.all_stopped.Goals as goal

pub loop-processor-preserved : goal.loop-processor-preserved
loop-processor-preserved c = λ j low.
    let job = c.args.sight.now.job.now in
    let s = c.args.sight.now.state.now in
    let running = c.args.sight.now.running.now in
    let k = c.loop-processor.processor-index in
    elim (cases_lt j k) [
      | inl less ↦ c.loop-processor.invariant j less
      | inr more ↦
          let e : k ≡ j = omega arith in
          let code = ap (λ (xs : List Instr). length xs) c.code.ensures.value in
          let at : c.counter-index.result ≡ counter job s (get_or running k 0) =
          c.counter-index.ensures in
          let test = c.if-index-code.false in
          let stopped : IsStopped job s (get_or running k 0) = omega arith in
          subst (λ (n : ℕ). IsStopped job s (get_or running n 0)) e stopped
    ]

pub returns : goal.returns
returns c = λ i low.
    let job = c.args.sight.now.job.now in
    let s = c.args.sight.now.state.now in
    let running = c.args.sight.now.running.now in
    elim (cases_lt (counter job s i) (halted job)) [
      | inl runs ↦
          let there = c.requires.running.all i low runs in
          let inside = there.1 in
          let e : get_or running there.0 0 ≡ i =
          get_or_default running there.0 0 i inside ∙ there.2 in
          let past = c.loop-processor-test.false in
          subst (IsStopped job s) e (c.loop-processor.invariant there.0 (omega arith))
      | inr stopped ↦ stopped
    ]
