use Rattle.std.proofs.Common.{◌≡◌, Err, IfErr, rules, sym, subst}
use Rattle.pram_job.specs.Job.{JobData}
use Rattle.pardo_job.specs.declared.fault.JobFault.{JobFault}
use Rattle.pardo_job.specs.Refusals.{IsProgramFault}
use Rattle.pardo_job.proofs.Starts.{draft_is, late_is, made_of}
use Rattle.pardo_job.proofs.compiler.finish.Goals as goal

pub returns-in_err-compiled-clause-refused : goal.returns-in_err-compiled-clause-refused
returns-in_err-compiled-clause-refused g c =
    let draft = c.args.draft in
    let fault = c.in_err-compiled.field-0.0 in
    let e : c.from_residual.result ≡ Err fault = search rules in
    subst (λ r. IfErr r (λ (f : JobFault). IsProgramFault draft.program f.line f.kind)) (sym e)
    (late_is draft.program draft.job draft.numbers.items c.requires.draft fault.line fault.kind
    c.in_err-compiled.ensures.refused)

pub returns-clause-made : goal.returns-clause-made
returns-clause-made g c =
    let draft = c.args.draft in
    made_of draft.program draft.job draft.numbers.items c.requires.draft
    c.in_ok-compiled.compiled c.in_ok-compiled.ensures.job c.in_ok-compiled.ensures.given

pub returns-clause-seen : goal.returns-clause-seen
returns-clause-seen g c =
    let draft = c.args.draft in
    let compiled = c.in_ok-compiled.compiled in
    subst (λ (j : JobData). g.O.Observer.has_seen j compiled.job.steps c.in_ok-compiled.observer)
    (draft_is draft.program draft.job draft.numbers.items c.requires.draft compiled
    c.in_ok-compiled.ensures.given)
    c.in_ok-compiled.ensures.seen
