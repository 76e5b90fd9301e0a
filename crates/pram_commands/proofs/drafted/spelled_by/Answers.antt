use Rattle.std.proofs.Common.{arith, refl, rules}
use Rattle.naming.specs.Drafted.{IsCounted}
use Rattle.pram_commands.proofs.Uncounted.{is_run_of}
use Rattle.pram_commands.proofs.drafted.spelled_by.Goals as goal

pub returns-else-steps-clause-ok : goal.returns-else-steps-clause-ok
returns-else-steps-clause-ok c =
    let counted : IsCounted c.args.text.items c.args.draft c.in-Ok.job c.in-Ok.naming = search rules in
    let within = c.if-steps.false in
    let needs = c.steps-in-Ok.ensures.value in
    let most = c.steps.ensures.value in
    is_run_of c.args.longer.now c.args.draft c.in-Ok.naming _ c.requires.longer counted refl
    (omega (arith, within, needs, most))
