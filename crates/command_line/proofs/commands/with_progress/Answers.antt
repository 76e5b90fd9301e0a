use Rattle.std.proofs.Common.{codes}
use Rattle.clap.specs.Words.{with_rule}
use Rattle.command_line.specs.CommandLine.{flag_rule, number_rule}
use Rattle.command_line.proofs.commands.with_progress.Goals as goal

pub returns : goal.returns
returns c = λ app made.
    let progress = flag_rule (codes "progress") in
    let one = c.with_arg-command.ensures app progress made c.flag.ensures.rule
    c.flag.ensures.local in
    c.with_arg.ensures (with_rule app progress) (number_rule (codes "pace") 0 1000000) one
    c.pace.ensures.rule c.pace.ensures.local
