use Rattle.pram_commands.proofs.Doing.{ok_not_err, printed_did}
use Rattle.pram_commands.proofs.commands.on_threads.run.Goals as goal

pub returns : goal.returns
returns g c =
    let took = c.in_ok-inputs.ensures in
    let spelled = c.in_ok-inputs.inputs.spelled in
    printed_did _ _ _ _ spelled.job c.in_ok-inputs.inputs.plan
    (record {
      job_text = spelled.text.items;
      a_job = took.both.gives_job;
      a_plan = took.both.gives_plan;
    }) tt tt
    (λ f. ok_not_err _ _ (took.job_failed.0 f))
    (λ f. ok_not_err _ _ (took.plan_failed.0 f)) took.job_reads took.plan_reads
    _ c.put_run.ensures _ c.printed.ensures
