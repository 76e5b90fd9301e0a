use Rattle.std.proofs.Common.{◌≢◌, ℕ, ◌<◌, take, MatchOption, sym, subst}
use Rattle.pram_step.specs.declared.answer.Dispute.{Dispute}
use Rattle.pram_step.specs.Disputes.{Forbids}
use Rattle.pram_step.specs.Steps.{IsVerdict}
use Rattle.pram_step.proofs.Marking.{store_allowed, store_later, store_new}
use Rattle.pram_step.proofs.stores.dispute_of.Goals as goal

-- the rule allows it
pub returns-then-not-is_forbidden : goal.returns-then-not-is_forbidden
returns-then-not-is_forbidden c = λ requests puts earlier verdict.
    store_allowed c.args.job.now requests c.args.store c.args.first c.requires puts earlier
    c.args.found
    (subst (λ rule. (k n : ℕ) → k ≢ n → Forbids rule k c.args.first.value n c.args.store.value → ⊥)
    c.rule.ensures.value c.if-not-is_forbidden.ensures)
    verdict

-- no less a cell than that disputed already
pub returns-in-Some : goal.returns-in-Some
returns-in-Some c = λ requests puts earlier verdict.
    store_later c.args.job.now requests c.args.store c.args.first c.requires puts earlier
    c.in-Some.dispute c.if-dispute-store.true
    (subst (λ found. IsVerdict c.args.job.now (take c.args.store.processor requests) found)
    c.in-Some.is verdict)

-- a lesser cell
pub returns-in_default : goal.returns-in_default
returns-in_default c = λ requests puts earlier verdict.
    store_new c.args.job.now requests c.args.store c.args.first c.requires puts earlier
    c.args.found
    (subst (λ rule. (k n : ℕ) → k ≢ n → Forbids rule k c.args.first.value n c.args.store.value)
    c.rule.ensures.value c.if-not-is_forbidden.ensures)
    (subst (λ found. MatchOption found (Unit {0}) (λ d. c.args.store.cell < d.cell))
    (sym c.in-Some.is) c.if-dispute-store.false)
    verdict

-- the first dispute
pub returns-in_default-2 : goal.returns-in_default-2
returns-in_default-2 c = λ requests puts earlier verdict.
    store_new c.args.job.now requests c.args.store c.args.first c.requires puts earlier
    c.args.found
    (subst (λ rule. (k n : ℕ) → k ≢ n → Forbids rule k c.args.first.value n c.args.store.value)
    c.rule.ensures.value c.if-not-is_forbidden.ensures)
    (subst (λ found. MatchOption found (Unit {0}) (λ (d : Dispute). c.args.store.cell < d.cell))
    (sym c.in_default.is) tt)
    verdict
