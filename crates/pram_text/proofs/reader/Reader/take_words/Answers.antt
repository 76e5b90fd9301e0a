use Rattle.std.proofs.Common.{◌∙◌, sym, subst}
use Rattle.std.proofs.lemmas.Result.{err_from_is_err_and}
use Rattle.pram_text.specs.Inner.Reading.{HoldsAt}
use Rattle.pram_text.proofs.Lawful.{value_keeps, named_number-keeps}
use Rattle.pram_text.proofs.Taking.{HoldsAt-front, TakesWords-front, TakesWords-code_line}
use Rattle.pram_text.proofs.Taking.{TakesWords-start, TakesWords-code}
use Rattle.pram_text.proofs.reader.Reader.take_words.Goals as goal

pub take-requires-in-Start-2 : goal.take-requires-in-Start-2
take-requires-in-Start-2 c =
    let h = subst (λ n. HoldsAt n c.requires.0 c.args.self.now) c.in-Start-2.is c.requires.1 in
    (value_keeps _ (named_number-keeps _ _ _ _) h.3.cells_said).0

pub returns-in-Code : goal.returns-in-Code
returns-in-Code c = λ before h.
    TakesWords-code before _ c.args.self.now _ _ _ _ c.is_later.ensures
    (subst (λ n. HoldsAt n before c.args.self.now) c.in-Code.is h) c.in-Code.is
    c.take.ensures.told c.take.ensures.number

pub returns-in-Start : goal.returns-in-Start
returns-in-Start c = λ before h.
    TakesWords-code_line before _ c.args.self.now _
    (subst (λ n. HoldsAt n before c.args.self.now) c.in-Start.is h)
    (sym c.is_code_line.ensures ∙ c.if-is_code_line.true)

pub returns-in-Start-2 : goal.returns-in-Start-2
returns-in-Start-2 c = λ before h.
    TakesWords-start before _ c.args.self.now _ _ _
    (subst (λ n. HoldsAt n before c.args.self.now) c.in-Start-2.is h) c.in-Start-2.is
    (sym c.is_code_line.ensures ∙ c.if-is_code_line.false)
    (rw c.is_later-later.ensures at c.take-in-Start-2.ensures)

pub returns-in_ok-self-in_default : goal.returns-in_ok-self-in_default
returns-in_ok-self-in_default c = λ before h.
    let front =
    HoldsAt-front _ before c.args.self.now c.in_default.not-Start c.in_default.not-Code h in
    TakesWords-front before _ c.args.self.now _ _ c.in_default.not-Start c.in_default.not-Code h
    (c.in_ok-self-in_default.ensures before front.0)

pub returns-in_err-self-in_default : goal.returns-in_err-self-in_default
returns-in_err-self-in_default c = λ before h.
    let p = err_from_is_err_and c.from_residual.result c.from_residual.ensures.1 in
    let front =
    HoldsAt-front _ before c.args.self.now c.in_default.not-Start c.in_default.not-Code h in
    rw (p.1, p.2) (λ _. c.in_err-self-in_default.ensures before front.0)
