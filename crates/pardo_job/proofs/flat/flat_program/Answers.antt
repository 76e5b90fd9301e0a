use Rattle.std.proofs.Common.{sym, subst}
use Rattle.pardo_flat.specs.Inner.Flats.{DoAllFit, IsFlatProgram, IsFlattened}
use Rattle.pardo_flat.proofs.FlatWhole.{whole}
use Rattle.pardo_job.proofs.flat.flat_program.Goals as goal

pub returns-in-Same-clause-flat : goal.returns-in-Same-clause-flat
returns-in-Same-clause-flat c =
    let fit : DoAllFit c.args.program.lines =
    subst (IsFlattened c.args.program) c.in-Same.is c.in_ok-flatten.ensures in
    sym (whole c.args.program c.requires fit)

pub returns-in-Flat-clause-flat : goal.returns-in-Flat-clause-flat
returns-in-Flat-clause-flat c =
    let is : IsFlatProgram c.args.program c.in-Flat.flat =
    subst (IsFlattened c.args.program) c.in-Flat.is c.in_ok-flatten.ensures in
    is.program_is

pub returns-in-Flat-clause-lawful : goal.returns-in-Flat-clause-lawful
returns-in-Flat-clause-lawful c =
    let is : IsFlatProgram c.args.program c.in-Flat.flat =
    subst (IsFlattened c.args.program) c.in-Flat.is c.in_ok-flatten.ensures in
    is.lawful
