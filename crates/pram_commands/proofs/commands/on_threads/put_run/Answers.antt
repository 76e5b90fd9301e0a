use Rattle.std.proofs.Common.{◌∙◌, ap, sym}
use Rattle.pram_commands.proofs.Doing.{well}
use Rattle.pram_commands.proofs.Hearing.{puts_heard, ran_unread_on, run_ends}
use Rattle.naming.specs.Writing.{writing}
use Rattle.pram_commands.proofs.commands.on_threads.put_run.Goals as goal

-- the output's last value is what was handed back
pub returns : goal.returns
returns g c =
    let inputs = c.args.inputs.now in
    let spelled = inputs.spelled in
    let ended = c.run_job-ended.result in
    let w = writing g.O.Sink c.args.out.now ended.1.0.now in
    let ran = ran_unread_on _ _ spelled.job inputs.plan _ _ _ c.run_job-ended.ensures in
    rw (c.out-1.given.1 (sym ran.1.0) ∙ c.take_back.ensures)
    (puts_heard c.args.ask.style spelled.text.items spelled.job inputs.plan w ended.0 ended.1.1
    c.outcome.result (run_ends spelled.text.items spelled.job inputs.plan ended.0 ran.0) ran.1.1
    (λ un f. well _ (ap g.O.Sink.has_failed un ∙ c.requires.output) f) c.outcome.ensures)
