use Rattle.std.proofs.Common.{◌≡◌, Some, subst, sym, ◌∙◌}
use Rattle.pram_words.specs.declared.phases.Kind.{Kind}
use Rattle.walkx.specs.Passing.{idle_in, if_so}
use Rattle.walkx.proofs.Resting.{apply_rests}
use Rattle.walkx.proofs.Silent.{second_idle}
use Rattle.walkx.proofs.idle.passes.Goals as goal

pub passes_own-requires : goal.passes_own-requires
passes_own-requires c = sym c.kind.ensures.value ∙ c.in-Compute.is

pub returns-in-Compute-clause-idle : goal.returns-in-Compute-clause-idle
returns-in-Compute-clause-idle c =
    let at = c.args.leaf.now in
    subst (λ (k : Kind). idle_in k at c.args.memo.now ≡ if_so c.passes_own.result
    c.passes_own.new.memo)
    (sym (sym c.kind.ensures.value ∙ c.in-Compute.is)) c.passes_own.ensures.idle

pub returns-in-Apply-clause-idle : goal.returns-in-Apply-clause-idle
returns-in-Apply-clause-idle c =
    let at = c.args.leaf.now in
    subst (λ (k : Kind). idle_in k at c.args.memo.now ≡ Some c.args.memo.now)
    (sym (sym c.kind.ensures.value ∙ c.in-Apply.is)) (apply_rests at c.args.memo.now)

pub returns-in-Verify-clause-idle : goal.returns-in-Verify-clause-idle
returns-in-Verify-clause-idle c =
    let at = c.args.leaf.now in
    let memo = c.args.memo.now in
    let second = sym c.kind.ensures.value ∙ c.in-Verify.is in
    subst (λ (k : Kind). idle_in k at memo ≡ if_so c.is_past.result memo) (sym second)
    (second_idle at memo c.is_past.result second (rw c.phase.ensures.value at c.is_past.ensures))
