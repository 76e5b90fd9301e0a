use Rattle.std.proofs.Common.{inr, refl}
use Rattle.pram_streams.specs.declared.print.PrintFault.TheVariants.{Device}
use Rattle.pram_commands.proofs.Doing.{begins_after, begins_front, err_as, err_is, put_both}
use Rattle.pram_commands.proofs.Doing.{put_failed}
use Rattle.pram_commands.proofs.commands.alone.put_replay.Goals as goal

pub returns-in_err-answer : goal.returns-in_err-answer
returns-in_err-answer g c =
    let begins = c.in_err-answer.ensures.beginning in
    let failed = c.in_err-answer.ensures.failed in
    put_failed _ _ _ _ _ c.in_err-answer.field-0.0
    (err_is _ _ c.from_residual.ensures)
    (begins_front c.args.alone _ c.args.inputs.now.spelled.text.items c.args.inputs.now.spelled.job _ begins.answer
    _ (begins.trace, begins.is, refl) _ c.requires.names begins.prints)
    (λ e. inr tt) ((λ f. err_as _ Device (failed.0 f)), (λ e. failed.1 (err_as _ Device e)))

pub returns-in_err-print_ending : goal.returns-in_err-print_ending
returns-in_err-print_ending g c =
    let takes = c.in_ok-answer.ensures.ok in
    put_failed _ _ _ _ _ c.in_err-print_ending.field-0.0
    (err_is _ _ c.from_residual-in_err-print_ending.ensures)
    (begins_after c.args.alone _ c.args.inputs.now.spelled.text.items c.args.inputs.now.spelled.job _
    c.in_ok-answer.answer _ (takes.trace, takes.is, refl) _ c.requires.names _ _
    refl takes.prints c.in_err-print_ending.ensures.beginning)
    (λ e. inr tt) c.in_err-print_ending.ensures.failed

pub returns : goal.returns
returns g c =
    let takes = c.in_ok-answer.ensures.ok in
    put_both c.args.alone _ c.args.inputs.now.spelled.text.items c.args.inputs.now.spelled.job _
    c.in_ok-answer.answer _ (takes.trace, takes.is, refl) _ c.requires.names _ _ _
    refl takes.prints c.in_ok-print_ending.ensures.ok
    c.in_ok-print_ending.ensures.failed
