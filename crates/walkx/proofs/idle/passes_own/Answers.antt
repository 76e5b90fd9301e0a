use Rattle.std.proofs.Common.{◌≡◌, ◌==◌, suc, true, false, sym, ◌∙◌}
use Rattle.std.proofs.lemmas.Bool.{eqb-true}
use Rattle.walk_memory.specs.Inner.Posts.{step_of}
use Rattle.walk_memory.specs.Memory.{is_past}
use Rattle.walkx.proofs.Silent.{past_idle, stopped_idle, unknown_idle}
use Rattle.walkx.proofs.idle.passes_own.Goals as goal

pub returns-then-is_past-clause-idle : goal.returns-then-is_past-clause-idle
returns-then-is_past-clause-idle c =
    let at = c.args.leaf.now in
    let memo = c.args.memo.now in
    let past : is_past at.phase memo ≡ true =
    rw c.phase.ensures.value at (sym c.is_past.ensures ∙ c.if-is_past.true) in
    past_idle at memo c.requires past

pub returns-then-not-is_before-clause-idle : goal.returns-then-not-is_before-clause-idle
returns-then-not-is_before-clause-idle c =
    let at = c.args.leaf.now in
    let memo = c.args.memo.now in
    let past : is_past at.phase memo ≡ false =
    rw c.phase.ensures.value at (sym c.is_past.ensures ∙ c.if-is_past.false) in
    let other : (suc memo.step == step_of at) ≡ false =
    rw c.step.ensures.value at (sym c.is_before.ensures ∙ c.if-not-is_before.true) in
    unknown_idle at memo c.requires past other

pub passes_by-requires-clause-before : goal.passes_by-requires-clause-before
passes_by-requires-clause-before c =
    let at = c.args.leaf.now in
    let same : (suc c.args.memo.now.step == step_of at) ≡ true =
    rw c.step.ensures.value at (sym c.is_before.ensures ∙ c.if-not-is_before.false) in
    eqb-true (suc c.args.memo.now.step) (step_of at) same

pub returns-in-None-clause-idle : goal.returns-in-None-clause-idle
returns-in-None-clause-idle c =
    let at = c.args.leaf.now in
    let memo = c.args.memo.now in
    let same : (suc memo.step == step_of at) ≡ true =
    rw c.step.ensures.value at (sym c.is_before.ensures ∙ c.if-not-is_before.false) in
    rw c.stay.ensures (stopped_idle at memo (eqb-true (suc memo.step) (step_of at) same)
    c.in-None.ensures.value)
