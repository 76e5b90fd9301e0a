use Rattle.std.proofs.Common.{codes}
use Rattle.clap.specs.Words.{with_rule}
use Rattle.command_line.specs.CommandLine.{flag_rule, number_rule, on_file}
use Rattle.command_line.proofs.commands.steps_command.Goals as goal

pub returns : goal.returns
returns c =
    let steps = on_file (codes "steps") in
    let from = number_rule (codes "from") 1 4294967295 in
    let to = number_rule (codes "to") 1 4294967295 in
    let one = c.with_arg-command.ensures steps from c.file_command-command.ensures
    c.step.ensures.rule c.step.ensures.local in
    let two = c.with_arg-command-2.ensures (with_rule steps from) to one c.step-2.ensures.rule
    c.step-2.ensures.local in
    c.with_arg.ensures (with_rule (with_rule steps from) to) (flag_rule (codes "csv")) two
    c.flag.ensures.rule c.flag.ensures.local
