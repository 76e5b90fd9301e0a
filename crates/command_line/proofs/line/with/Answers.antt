use Rattle.std.proofs.Common.{◌≡◌, subst}
use Rattle.std.specs.Prelude.{IfOk}
use Rattle.std.proofs.lemmas.Result.{IfOk-weaker}
use Rattle.clap.specs.Words.{app_of, with_subcommand}
use Rattle.clap.specs.declared.builder.command.Command.{Command}
use Rattle.command_line.proofs.Subcommands.{added}
use Rattle.command_line.proofs.line.with.Goals as goal

pub returns-in-Ok : goal.returns-in-Ok
returns-in-Ok c = λ app sub plain is_app is_sub.
    let old = c.in_ok-command.command in
    let new_sub = c.in-Ok.subcommand in
    let of_old : app_of old ≡ app =
    subst (λ m. IfOk m (λ it. app_of it ≡ app)) c.in_ok-command.was is_app in
    let of_sub : app_of new_sub ≡ sub =
    subst (λ m. IfOk m (λ it. app_of it ≡ sub)) c.in-Ok.is is_sub in
    IfOk-weaker c.subcommand.result _
    (λ (it : Command). app_of it ≡ with_subcommand app sub.top)
    (λ r last. added old r new_sub app sub last.shape of_old of_sub plain)
    c.subcommand.ensures
