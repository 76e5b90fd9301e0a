use Rattle.std.proofs.Common.{Err, List, Ok, ℕ, refl, subst, sym}
use Rattle.pram_step.specs.Runs.{IsAnswer}
use Rattle.pram_commands.proofs.Doing.{err_is}
use Rattle.pram_commands.specs.Why.{IsExplained}
use Rattle.pram_commands.proofs.Explaining.{follows_answer}
use Rattle.pram_commands.proofs.Told.{told_as}
use Rattle.pram_commands.proofs.why.put_explained.Goals as goal

pub put_both-requires-clause-follows : goal.put_both-requires-clause-follows
put_both-requires-clause-follows g c =
    follows_answer _ _ _ c.args.spelled.now.job c.in_ok-answer.answer c.in_ok-answer.why _
    c.requires.asked c.in_ok-answer.ensures.answer c.in_ok-answer.ensures.why
    (subst (λ (b : List ℕ). IsExplained c.args.spelled.now.text.items c.args.spelled.now.names
    c.args.spelled.now.job c.in_ok-answer.answer c.in_ok-answer.why b)
    (sym c.as_str.ensures.value) c.in_ok-back.ensures)

pub returns-in_err-put_both : goal.returns-in_err-put_both
returns-in_err-put_both g c =
    told_as _ (IsAnswer c.args.spelled.now.job) _ _ _ c.in_ok-answer.answer
    c.in_ok-answer.ensures.answer (Err c.in_err-put_both.field-0.0)
    c.in_err-put_both.ensures _ (err_is _ _ c.from_residual-in_err-put_both.ensures)

pub returns : goal.returns
returns g c =
    told_as _ (IsAnswer c.args.spelled.now.job) _ _ _ c.in_ok-answer.answer
    c.in_ok-answer.ensures.answer (Ok tt) c.in_ok-put_both.ensures _ refl
