use Rattle.std.proofs.Common.{◌∙◌, sym, arith}
use Rattle.std.proofs.lemmas.Result.{err_from_is_err_and}
use Rattle.pardo_text.proofs.Starts.{take_begins, take_fault, take_last, take_comma, take_end}
use Rattle.pardo_text.proofs.Starts.{take_left, take_more, some_from, none_from, rest_from}
use Rattle.pardo_text.proofs.value.take_values.Goals as goal

pub loop-turn-init : goal.loop-turn-init
loop-turn-init c = take_begins _ _ _ _ _ c.len-turn-end.ensures

pub returns-in_err-value : goal.returns-in_err-value
returns-in_err-value c =
    let p = err_from_is_err_and c.from_residual.result c.from_residual.ensures.1 in
    rw (p.1, p.2) (λ ne. c.loop-turn.invariant
    ∙ take_fault _ c.len-turn-end.result c.loop-turn._turn _ _ _ c.loop-turn-test.true
    (c.in_err-value.ensures ne))

pub returns-then-len-eq0 : goal.returns-then-len-eq0
returns-then-len-eq0 c = c.loop-turn.invariant
    ∙ take_last _ c.len-turn-end.result c.loop-turn._turn _ _ _ _ c.fixed.new.tokens
    c.loop-turn-test.true c.in_ok-value.ensures
    (omega arith) c.in_ok-push.ensures.items

pub returns-in_err-expect : goal.returns-in_err-expect
returns-in_err-expect c =
    let p = err_from_is_err_and c.from_residual-in_err-expect.result
    c.from_residual-in_err-expect.ensures.1 in
    rw (p.1, p.2) (λ ne. c.loop-turn.invariant
    ∙ take_comma _ c.len-turn-end.result c.loop-turn._turn _ _ _ c.fixed.new.tokens _
    c.loop-turn-test.true c.in_ok-value.ensures
    (omega arith) (c.in_err-expect.ensures ne))

pub returns-in_err-ended : goal.returns-in_err-ended
returns-in_err-ended c =
    let p = err_from_is_err_and c.from_residual-in_err-ended.result
    c.from_residual-in_err-ended.ensures.1 in
    rw (p.1, p.2) (λ ne. c.loop-turn.invariant
    ∙ take_left _ c.len-turn-end.result c.loop-turn._turn _ _ _ c.fixed.new.tokens _ _ _
    c.loop-turn-test.true c.in_ok-value.ensures
    (omega arith) c.in_ok-expect.ensures
    (some_from _ _ _ (sym c.dots.ensures.found ∙ c.if-dots.true) c.dots.ensures.rest)
    c.in_err-ended.ensures)

pub returns-then-dots : goal.returns-then-dots
returns-then-dots c = c.loop-turn.invariant
    ∙ take_end _ c.len-turn-end.result c.loop-turn._turn _ _ _ _ c.fixed.new.tokens _ _
    c.loop-turn-test.true c.in_ok-value.ensures
    (omega arith) c.in_ok-expect.ensures
    (some_from _ _ _ (sym c.dots.ensures.found ∙ c.if-dots.true) c.dots.ensures.rest)
    c.in_ok-ended.ensures c.in_ok-push.ensures.items

pub loop-turn-preserved : goal.loop-turn-preserved
loop-turn-preserved c = c.loop-turn.invariant
    ∙ take_more _ c.len-turn-end.result c.loop-turn._turn _ _ _ _ c.fixed.new.tokens _ _
    c.loop-turn-test.true c.in_ok-value.ensures
    (omega arith) c.in_ok-expect.ensures (none_from _ (sym c.dots.ensures.found ∙ c.if-dots.false))
    (rest_from _ _ _ (sym c.dots.ensures.found ∙ c.if-dots.false) c.dots.ensures.rest)
    c.in_ok-push.ensures.items
