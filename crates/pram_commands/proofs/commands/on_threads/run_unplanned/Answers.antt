use Rattle.std.proofs.Common.{◌∙◌, [], ap, refl, subst}
use Rattle.refusals.specs.declared.fault.CommandFault.TheVariants.{Memory}
use Rattle.pram_commands.specs.Inner.Unrun.{IsUnrun}
use Rattle.pram_commands.proofs.Doing.{err_is, gives_none, ok_not_err, printed_did, well}
use Rattle.pram_commands.proofs.Refusing.{explains_text, gives_empty, not_device, refused_did}
use Rattle.pram_commands.proofs.commands.on_threads.run_unplanned.Goals as goal

pub returns-in_err-plan : goal.returns-in_err-plan
returns-in_err-plan g c =
    let took = c.in_ok-unrun.ensures in
    rw (err_is _ Memory c.from_residual-in_err-plan.ensures)
    (refused_did _ _ _ _ Memory tt refl tt
    ((λ f. absurd (ok_not_err _ _ (took.failed.0 f))), (λ e. absurd (not_device [] Memory tt e)))
    (well _ c.requires.ready.plan) refl (well _ c.requires.ready.output) took.reads (gives_none _))

pub returns-in-Whole : goal.returns-in-Whole
returns-in-Whole g c =
    let took = c.in_ok-unrun.ensures in
    let spelled = c.in-Whole.spelled in
    let is = subst (IsUnrun took.ok.text) c.in-Whole.is took.ok.is in
    printed_did _ _ _ _ spelled.job c.in_ok-plan.plan
    (record {
      job_text = spelled.text.items;
      a_job = record { gives = rw is.0 took.ok.gives; means = (spelled.names, rw is.0 is.1) };
      a_plan = record {
        text = [];
        gives = gives_empty _ (c.requires.ready.unplanned c.requires.unplanned);
        is = c.in_ok-plan.ensures;
      };
    }) tt tt (λ f. ok_not_err _ _ (took.failed.0 f)) (well _ c.requires.ready.plan) took.reads
    (gives_none _) _ c.put_run.ensures _ c.printed.ensures

pub returns-in-Ok : goal.returns-in-Ok
returns-in-Ok g c =
    let took = c.in_ok-unrun.ensures in
    let spelled = c.in-Ok.field-0-0 in
    let is = subst (IsUnrun took.ok.text) c.in-Drafted.is took.ok.is in
    let ran = c.in-Ok.ensures in
    printed_did _ _ _ _ spelled.job c.in_ok-plan.plan
    (record {
      job_text = c.in-Drafted.text.items;
      a_job = record { gives = rw is.0 took.ok.gives; means = (spelled.names, ran.names) };
      a_plan = record {
        text = [];
        gives = gives_empty _ (c.requires.ready.unplanned c.requires.unplanned);
        is = c.in_ok-plan.ensures;
      };
    }) tt tt (λ f. ok_not_err _ _ (took.failed.0 f)) (well _ c.requires.ready.plan) took.reads
    (gives_none _) _ ran.puts _ c.printed-in-Ok.ensures

pub returns : goal.returns
returns g c =
    let took = c.in_ok-unrun.ensures in
    let refused = c.in-Err.ensures in
    let is = subst (IsUnrun took.ok.text) c.in-Drafted.is took.ok.is in
    let text = c.in-Drafted.text.items in
    refused_did _ _ _ _ _ (explains_text _ _ text _ (rw is.0 took.ok.gives) refused.bad) refl tt (
      (λ f. absurd (ok_not_err _ _ (took.failed.0 f))),
      (λ e. absurd (not_device text _ refused.bad e)),
    )
    (well _ c.requires.ready.plan) refused.unwritten
    (λ f. well _ (ap g.O.Sink.has_failed refused.unwritten ∙ c.requires.ready.output) f) took.reads
    (gives_none _)
