use Rattle.pardo_job.proofs.Ends.{endless_run, most_rest}
use Rattle.pardo_job.proofs.run.run_to_the_most.Goals as goal

pub returns-in-Some-clause-run : goal.returns-in-Some-clause-run
returns-in-Some-clause-run c = endless_run c.args.job.now c.args.state c.in-Some.index c.requires.0
    c.in-Some.ensures.some

pub returns-in-None-clause-run : goal.returns-in-None-clause-run
returns-in-None-clause-run c = most_rest c.args.job.now _ c.most_steps.ensures c.requires c.in-None.ensures.none
