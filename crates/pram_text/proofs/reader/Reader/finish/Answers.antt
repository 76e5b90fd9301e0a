use Rattle.std.proofs.Common.{◌∙◌, sym, refl, subst, inl, arith}
use Rattle.std.proofs.lemmas.Bool.{eqb-true}
use Rattle.pram_text.specs.Inner.Reading.{HoldsAt}
use Rattle.pram_text.proofs.Finishing.{end_fault-header, end_fault-empty}
use Rattle.pram_text.proofs.reader.Reader.finish.Goals as goal

pub returns-in_default : goal.returns-in_default
returns-in_default c = record {
  told = λ before h _. inl (end_fault-header _ before c.args.self c.in_default.not-Code h, refl);
  memory = λ e. cc;
}

pub returns-then-is_empty-clause-told : goal.returns-then-is_empty-clause-told
returns-then-is_empty-clause-told c = λ before h _.
    let held = subst (λ n. HoldsAt n before c.args.self) c.in-Code.is h in
    let none = eqb-true _ _ (sym c.is_empty.ensures ∙ c.if-is_empty.true) in
    inl (
      end_fault-empty before c.args.self held (omega (arith, c.args.self.program.written.ok.0)),
      refl,
    )

pub returns-clause-told : goal.returns-clause-told
returns-clause-told c = λ before h.
    c.job.ensures.told before c.args.last (subst (λ n. HoldsAt n before c.args.self) c.in-Code.is h)
