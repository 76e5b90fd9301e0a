use Rattle.std.proofs.Common.{refl, subst}
use Rattle.naming.specs.Names.{AreNames, IsNaming}
use Rattle.naming.proofs.LoopRounds.{lost_known, named_lawful}
use Rattle.naming.proofs.rounds.rounds_text.Goals as goal

pub clash_rounds-requires : goal.clash_rounds-requires
clash_rounds-requires c =
    let spelled = c.args.spelled.now in
    let is : IsNaming spelled.text.items spelled.job c.in-Some.naming =
    subst (AreNames spelled.text.items spelled.job) c.in-Some.is c.requires.names in
    named_lawful c.programs_are_lawful.ensures _ _ _ is

pub lost_rounds-requires-clause-lawful : goal.lost_rounds-requires-clause-lawful
lost_rounds-requires-clause-lawful c =
    let spelled = c.args.spelled.now in
    let is : IsNaming spelled.text.items spelled.job c.in-Some.naming =
    subst (AreNames spelled.text.items spelled.job) c.in-Some.is c.requires.names in
    named_lawful c.programs_are_lawful.ensures _ _ _ is

pub lost_rounds-requires-clause-lost : goal.lost_rounds-requires-clause-lost
lost_rounds-requires-clause-lost c =
    lost_known c.args.spelled.now.job _ c.args.why.now.fates c.requires.why.1.fates _ refl
