use Rattle.std.proofs.Common.{Err, Ok, refl}
use Rattle.pram_step.specs.Runs.{IsAnswer}
use Rattle.pram_commands.proofs.Doing.{err_is}
use Rattle.pram_commands.proofs.Told.{told_as}
use Rattle.pram_commands.proofs.commands.alone.put_plain.Goals as goal

pub returns-in_err-put_told : goal.returns-in_err-put_told
returns-in_err-put_told g c =
    told_as _ (IsAnswer c.args.spelled.now.job) _ _ _ c.in_ok-answer.answer
    c.in_ok-answer.ensures (Err c.in_err-put_told.field-0.0) c.in_err-put_told.ensures _
    (err_is _ _ c.from_residual-in_err-put_told.ensures)

pub returns : goal.returns
returns g c =
    told_as _ (IsAnswer c.args.spelled.now.job) _ _ _ c.in_ok-answer.answer
    c.in_ok-answer.ensures (Ok tt) c.in_ok-put_told.ensures _ refl
