use Rattle.std.proofs.Common.{◌∙◌, arith, refl}
use Rattle.std.proofs.lemmas.Result.{err_from_is_err_and}
use Rattle.pardo_text.proofs.Added.{adds_below, below_is, joined_under, kept_below}
use Rattle.pardo_text.proofs.Chains.{within_at_none, within_at_more, level_at_zero, level_at_more}
use Rattle.pardo_text.proofs.Chains.{chained_ends, chained_operand, chained_join, chained_more}
use Rattle.pardo_text.proofs.Chains.{chained_begins, chained_over, before_is_no_division}
use Rattle.pardo_text.proofs.LawConstants.{is_no_other}
use Rattle.pardo_program.proofs.Postfix.{top_is}
use Rattle.pardo_text.proofs.parse.+operand.Goals as goal

pub within-returns-in-Some : goal.within-returns-in-Some
within-returns-in-Some t c =
    let some = c.in-Some.ensures in
    rw (within_at_more _ c.args.around.now.brackets c.in-Some.brackets _ _ (omega (arith, some)))
    c.leveled.ensures

pub within-returns-in-None : goal.within-returns-in-None
within-returns-in-None t c = λ ne. within_at_none _ _ _ _ (omega (arith, c.in-None.ensures))

pub leveled-returns-then-level-eq0 : goal.leveled-returns-then-level-eq0
leveled-returns-then-level-eq0 t c =
    rw (level_at_zero _ c.args.level _ _ (omega arith)) c.operand.ensures

pub leveled-returns-in_err-leveled : goal.leveled-returns-in_err-leveled
leveled-returns-in_err-leveled t c =
    let p = err_from_is_err_and c.from_residual.result c.from_residual.ensures.1 in
    rw (p.1, p.2, level_at_more _ c.args.level _ _ (omega arith))
    (λ ne. rw (c.in_err-leveled.ensures ne) refl)

pub leveled-returns : goal.leveled-returns
leveled-returns t c =
    let some = c.in_ok-leveled.ensures in
    rw (level_at_more _ c.args.level _ _ (omega arith), some.1)
    (adds_below _ _ _ _ _ _ (below_is _ _ some.0) c.chain.ensures)

pub chain-loop-turn-init : goal.chain-loop-turn-init
chain-loop-turn-init t c = (
  top_is _ c.requires.first,
  chained_begins _ _ _ _ _ _ c.turns-turn-end.ensures,
)

pub chain-returns-in_default : goal.chain-returns-in_default
chain-returns-in_default t c =
    let none = c.in_default.ensures in (
      c.loop-turn.invariant.0,
      c.loop-turn.invariant.1 ∙ chained_ends _ _ _ _ _ _ none.0 none.1,
    )

pub chain-returns-in_err-leveled : goal.chain-returns-in_err-leveled
chain-returns-in_err-leveled t c =
    let p = err_from_is_err_and c.from_residual.result c.from_residual.ensures.1 in
    rw (p.1, p.2) (λ ne. c.loop-turn.invariant.1
    ∙ chained_operand _ _ c.turns-turn-end.result c.loop-turn._turn _ _ _ _ _
    c.loop-turn-test.true c.in-Some.ensures (c.in_err-leveled.ensures ne))

pub chain-returns-in_err-join : goal.chain-returns-in_err-join
chain-returns-in_err-join t c =
    let p = err_from_is_err_and c.from_residual-in_err-join.result
    c.from_residual-in_err-join.ensures.1 in
    rw (p.1, p.2) (λ ne. c.loop-turn.invariant.1
    ∙ chained_join _ _ c.turns-turn-end.result c.loop-turn._turn _ _ _ _ _ _ _
    c.loop-turn-test.true c.in-Some.ensures c.in_ok-leveled.ensures.1
    (joined_under _ _ _ _ c.in_ok-leveled.ensures.0 (c.in_err-join.ensures ne)))

pub chain-loop-turn-preserved : goal.chain-loop-turn-preserved
chain-loop-turn-preserved t c = (
  kept_below _ _ _ _ c.loop-turn.invariant.0 c.in_ok-leveled.ensures.0 c.in_ok-join.ensures.0,
  c.loop-turn.invariant.1
      ∙ chained_more _ _ c.turns-turn-end.result c.loop-turn._turn _ _ _ _ _ _ _
      c.loop-turn-test.true c.in-Some.ensures c.in_ok-leveled.ensures.1
      (joined_under _ _ _ _ c.in_ok-leveled.ensures.0 c.in_ok-join.ensures.1),
)

pub chain-returns : goal.chain-returns
chain-returns t c = (
  c.loop-turn.invariant.0,
  c.loop-turn.invariant.1
      ∙ chained_over _ _ c.turns-turn-end.result c.loop-turn._turn _ _ c.loop-turn-test.false,
)

pub pair-apply-requires-clause-divisor : goal.pair-apply-requires-clause-divisor
pair-apply-requires-clause-divisor t c =
    λ is. absurd (before_is_no_division c.args.op c.requires is)

pub logarithm-unreachable-requires : goal.logarithm-unreachable-requires
logarithm-unreachable-requires t c =
    is_no_other _ _ _ _ _ c.in_ok-within.ensures.1 c.in_default.ensures.1
