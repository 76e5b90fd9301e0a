use Rattle.std.proofs.Common.{◌≡◌, rules, subst, sym}
use Rattle.pram_job.specs.Job.{JobData}
use Rattle.naming.proofs.Stopping.{made_is, with_steps}
use Rattle.naming.proofs.drafts.counted.Goals as goal

pub returns-clause-counted : goal.returns-clause-counted
returns-clause-counted c =
    let draft = c.args.draft in
    let compiled = c.in-Ok.given.1 in
    record {
      job_is = subst (λ (j : JobData). j ≡ with_steps draft.job j.steps)
          (sym c.into_parts-job.ensures.job)
          (made_is c.args.text.now draft c.requires compiled.job c.in-Ok.ensures.made.job.made);
      names = search rules;
    }
