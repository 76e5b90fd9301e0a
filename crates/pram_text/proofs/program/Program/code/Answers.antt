use Rattle.std.proofs.Common.{◌∙◌, sym, ap, refl, map, take_all}
use Rattle.std.proofs.lemmas.List.{get_or-map}
use Rattle.pram_text.specs.declared.program.Written.{Written}
use Rattle.pram_text.specs.Inner.Reading.{label_at}
use Rattle.pram_text.specs.Inner.Statement.{resolved}
use Rattle.pram_text.proofs.Coded.{coded_more, first_wrong}
use Rattle.pram_text.proofs.program.Program.code.Goals as goal

pub loop-written-init : goal.loop-written-init
loop-written-init c = rw c.in_ok-code.ensures.items refl

pub returns-in-Err-clause-told : goal.returns-in-Err-clause-told
returns-in-Err-clause-told c = rw (← c.deref-written-items.ensures.value) (λ _. (
  c.loop-written.written-index,
  sym (get_or-map (λ (w : Written). w.line)
      c.deref-written-items.result.now _ _ 0 c.loop-written-test.true),
  first_wrong (λ w. resolved (label_at c.args.self.now.indices) w.statement)
      c.deref-written-items.result.now _ _ _ c.loop-written-test.true c.loop-written.invariant _
      (sym c.resolve.ensures ∙ c.in-Err.is),
))

pub loop-written-preserved : goal.loop-written-preserved
loop-written-preserved c = rw c.in_ok-push-in-Ok.ensures.items
    (coded_more (λ w. resolved (label_at c.args.self.now.indices) w.statement)
    c.deref-written-items.result.now _ _ _ c.loop-written-test.true c.loop-written.invariant _
    (sym c.resolve.ensures ∙ c.in-Ok.is))

pub returns-clause-told : goal.returns-clause-told
returns-clause-told c =
    let outcome = λ (w : Written). resolved (label_at c.args.self.now.indices) w.statement in
    ap (map outcome)
    (sym (take_all _ _ c.loop-written-test.false ∙ c.deref-written-items.ensures.value))
    ∙ c.loop-written.invariant
