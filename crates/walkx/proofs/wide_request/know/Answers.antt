use Rattle.std.proofs.Common.{◌≡◌, ◌==◌, suc, false, sym, ◌∙◌}
use Rattle.walkx.proofs.Passing.{passed}
use Rattle.walk_memory.specs.Inner.Posts.{step_of}
use Rattle.walkx.proofs.Knows.{loads_next, loads_plays}
use Rattle.walkx.proofs.wide_request.know.Goals as goal

pub load_memo-requires : goal.load_memo-requires
load_memo-requires g c =
    let at = c.args.leaf.now in
    let other : (suc c.args.memo.now.step == step_of at) ≡ false =
    rw c.step.ensures.value at (sym c.is_before.ensures ∙ c.if-not-is_before.true) in
    record { next = loads_next (g.S.Steps.stands at) at c.args.memo.now _ other c.requires.next }

pub returns-in_err-memo-clause-plays : goal.returns-in_err-memo-clause-plays
returns-in_err-memo-clause-plays g c =
    let at = c.args.leaf.now in
    let other : (suc c.args.memo.now.step == step_of at) ≡ false =
    rw c.step.ensures.value at (sym c.is_before.ensures ∙ c.if-not-is_before.true) in
    rw (passed c.from_residual.result _ c.from_residual.ensures.1)
    (loads_plays (g.S.Steps.stands at) at c.args.memo.now _ other _ _ c.in_err-memo.ensures.plays)

pub returns-in_ok-memo-clause-plays : goal.returns-in_ok-memo-clause-plays
returns-in_ok-memo-clause-plays g c =
    let at = c.args.leaf.now in
    let other : (suc c.args.memo.now.step == step_of at) ≡ false =
    rw c.step.ensures.value at (sym c.is_before.ensures ∙ c.if-not-is_before.true) in
    loads_plays (g.S.Steps.stands at) at c.args.memo.now _ other _ _ c.in_ok-memo.ensures.plays
