use Rattle.std.proofs.Common.{◌≡◌, ◌∙◌, ◌∷◌, sym, ap, subst, List, ℕ, length, arith, Some}
use Rattle.pardo_text.specs.Tokens.{token_at}
use Rattle.pardo_text.specs.Inner.Tokens.{plain}
use Rattle.pardo_text.proofs.Left.{AreCounted, counted_none, counted_blank, counted_token}
use Rattle.pardo_text.proofs.token.count_tokens.Goals as goal

pub loop-first-init : goal.loop-first-init
loop-first-init c = counted_none c.args.line.now

pub loop-first-preserved-then-is_blank : goal.loop-first-preserved-then-is_blank
loop-first-preserved-then-is_blank c =
    let here : c.loop-first.rest.now ≡ c.in-Some.first.now ∷ c.in-Some.after.now =
    c.in-Some.ensures.cases.0 in
    counted_blank c.args.line.now c.in-Some.first.now c.in-Some.after.now c.loop-first.count
    (subst (λ (rest : List ℕ). AreCounted c.args.line.now rest c.loop-first.count) here
    c.loop-first.invariant)
    (sym c.is_blank.ensures ∙ c.if-is_blank.true)

pub loop-first-preserved : goal.loop-first-preserved
loop-first-preserved c =
    let here : c.loop-first.rest.now ≡ c.in-Some.first.now ∷ c.in-Some.after.now =
    c.in-Some.ensures.cases.0 in
    let found : token_at (c.in-Some.first.now ∷ c.in-Some.after.now)
    ≡ Some (plain c.in-Some-next_token.field-0-0, c.in-Some-next_token.after.now) =
    ap token_at (sym here) ∙ sym c.in-Some-next_token.ensures.token in
    counted_token c.args.line.now c.in-Some.first.now c.in-Some.after.now c.loop-first.count
    (plain c.in-Some-next_token.field-0-0, c.in-Some-next_token.after.now)
    (subst (λ (rest : List ℕ). AreCounted c.args.line.now rest c.loop-first.count) here
    c.loop-first.invariant)
    (sym c.is_blank.ensures ∙ c.if-is_blank.false) found
    (omega (arith, ap length here, c.in-Some-next_token.ensures.shorter))
