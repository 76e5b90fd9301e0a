use Rattle.std.proofs.Common.{subst}
use Rattle.std.proofs.lemmas.Result.{IfOk-weaker}
use Rattle.pardo_flat.specs.Inner.Flats.{DoAllFit, IsFlatProgram, IsFlattened}
use Rattle.pardo_job.proofs.Drafting.{err_weaker, flat_draft, flat_fault, flat_places}
use Rattle.pardo_job.proofs.Drafting.{same_draft, same_fault, same_places}
use Rattle.pardo_job.proofs.compiler.draft_of.Goals as goal

pub returns-in-Same-clause-draft : goal.returns-in-Same-clause-draft
returns-in-Same-clause-draft c =
    let fit : DoAllFit c.args.program.now.lines =
    subst (IsFlattened c.args.program.now) c.in-Same.is c.in_ok-flatten.ensures in
    IfOk-weaker c.draft_of_lines.result _ _
    (λ given draft. same_draft c.args.program.now c.requires fit given.job given.numbers.items draft)
    c.draft_of_lines.ensures.draft

pub returns-in-Same-clause-places : goal.returns-in-Same-clause-places
returns-in-Same-clause-places c =
    let fit : DoAllFit c.args.program.now.lines =
    subst (IsFlattened c.args.program.now) c.in-Same.is c.in_ok-flatten.ensures in
    IfOk-weaker c.draft_of_lines.result _ _
    (λ given are. same_places c.args.program.now c.requires fit given.places.items are)
    c.draft_of_lines.ensures.places

pub returns-in-Same-clause-refused : goal.returns-in-Same-clause-refused
returns-in-Same-clause-refused c =
    let fit : DoAllFit c.args.program.now.lines =
    subst (IsFlattened c.args.program.now) c.in-Same.is c.in_ok-flatten.ensures in
    err_weaker c.draft_of_lines.result _ _
    (λ fault is. same_fault c.args.program.now c.requires fit fault.line fault.kind is)
    c.draft_of_lines.ensures.refused

pub returns-in-Flat-clause-draft : goal.returns-in-Flat-clause-draft
returns-in-Flat-clause-draft c =
    let is : IsFlatProgram c.args.program.now c.in-Flat.flat =
    subst (IsFlattened c.args.program.now) c.in-Flat.is c.in_ok-flatten.ensures in
    IfOk-weaker c.draft_of_flat.result _ _
    (λ given draft. flat_draft c.args.program.now c.requires c.in-Flat.flat is given.job
    given.numbers.items draft) c.draft_of_flat.ensures.draft

pub returns-in-Flat-clause-places : goal.returns-in-Flat-clause-places
returns-in-Flat-clause-places c =
    let is : IsFlatProgram c.args.program.now c.in-Flat.flat =
    subst (IsFlattened c.args.program.now) c.in-Flat.is c.in_ok-flatten.ensures in
    IfOk-weaker c.draft_of_flat.result _ _
    (λ given are. flat_places c.args.program.now c.requires c.in-Flat.flat is given.places.items are)
    c.draft_of_flat.ensures.places

pub returns-in-Flat-clause-refused : goal.returns-in-Flat-clause-refused
returns-in-Flat-clause-refused c =
    let is : IsFlatProgram c.args.program.now c.in-Flat.flat =
    subst (IsFlattened c.args.program.now) c.in-Flat.is c.in_ok-flatten.ensures in
    err_weaker c.draft_of_flat.result _ _
    (λ fault wrong. flat_fault c.args.program.now c.requires c.in-Flat.flat is fault.line
    fault.kind wrong) c.draft_of_flat.ensures.refused
