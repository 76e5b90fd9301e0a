use Rattle.std.proofs.Common.{codes}
use Rattle.clap.specs.Words.{with_rule}
use Rattle.command_line.specs.CommandLine.{flag_rule}
use Rattle.command_line.proofs.commands.with_style.Goals as goal

pub returns : goal.returns
returns c = λ app made.
    let csv = flag_rule (codes "csv") in
    let one = c.with_arg-command.ensures app csv made c.flag.ensures.rule c.flag.ensures.local in
    c.with_arg.ensures (with_rule app csv) (flag_rule (codes "why")) one c.flag-2.ensures.rule
    c.flag-2.ensures.local
