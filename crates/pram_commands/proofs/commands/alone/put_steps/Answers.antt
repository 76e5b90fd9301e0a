use Rattle.std.proofs.Common.{ℕ, List, Option, inr, refl}
use Rattle.pram_job.specs.Job.{JobData}
use Rattle.pram_step.specs.Runs.{IsAnswer}
use Rattle.pram_step.specs.declared.answer.RunAnswer.{RunAnswer}
use Rattle.pram_streams.specs.declared.print.PrintFault.TheVariants.{Device}
use Rattle.pram_rows.specs.Rows.{request_rows}
use Rattle.pram_rows.specs.Shown.{steps_text}
use Rattle.pram_rows.specs.declared.window.Window.{Window}
use Rattle.naming.specs.Names.{AreNames, NamingData}
use Rattle.pram_commands.specs.Steps.{TellsSteps}
use Rattle.naming.specs.RowNames.{row_words}
use Rattle.pram_commands.proofs.Doing.{begins_after, begins_front, err_as, err_is, put_both}
use Rattle.pram_commands.proofs.Doing.{put_failed}
use Rattle.pram_commands.proofs.commands.alone.put_steps.Goals as goal

-- what was shown tells the steps
tells_steps : (text : List ℕ) (job : JobData) (window : Window) (names : Option NamingData) →
    AreNames text job names → (answer : RunAnswer) → IsAnswer job answer →
    TellsSteps text job window answer
    (steps_text (request_rows (row_words names)) job window answer)
tells_steps text job window names are_names answer is = record {
  answers = is;
  names = names;
  are_names = are_names;
  rows = refl;
}

pub returns-in_err-answer : goal.returns-in_err-answer
returns-in_err-answer g c =
    let text = c.args.spelled.now.text.items in
    let job = c.args.spelled.now.job in
    let begins = c.in_err-answer.ensures.beginning in
    let failed = c.in_err-answer.ensures.failed in
    put_failed _ _ _ _ _ c.in_err-answer.field-0.0
    (err_is _ _ c.from_residual.ensures)
    (begins_front c.args.alone _ text job _ begins.answer _
    (tells_steps text job c.args.window _ c.requires.names begins.answer begins.answers)
    _ c.requires.names begins.prints)
    (λ e. inr tt) ((λ f. err_as _ Device (failed.0 f)), (λ e. failed.1 (err_as _ Device e)))

pub returns-in_err-print_ending : goal.returns-in_err-print_ending
returns-in_err-print_ending g c =
    let text = c.args.spelled.now.text.items in
    let job = c.args.spelled.now.job in
    let answer = c.in_ok-answer.answer in
    put_failed _ _ _ _ _ c.in_err-print_ending.field-0.0
    (err_is _ _ c.from_residual-in_err-print_ending.ensures)
    (begins_after c.args.alone _ text job _ answer _
    (tells_steps text job c.args.window _ c.requires.names answer
    c.in_ok-answer.ensures.ok.answers) _ c.requires.names _ _ refl
    c.in_ok-answer.ensures.ok.prints c.in_err-print_ending.ensures.beginning)
    (λ e. inr tt) c.in_err-print_ending.ensures.failed

pub returns : goal.returns
returns g c =
    let text = c.args.spelled.now.text.items in
    let job = c.args.spelled.now.job in
    let answer = c.in_ok-answer.answer in
    put_both c.args.alone _ text job _ answer _
    (tells_steps text job c.args.window _ c.requires.names answer
    c.in_ok-answer.ensures.ok.answers) _ c.requires.names _ _ _ refl
    c.in_ok-answer.ensures.ok.prints c.in_ok-print_ending.ensures.ok
    c.in_ok-print_ending.ensures.failed
