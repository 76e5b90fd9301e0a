use Rattle.std.proofs.Common.{codes}
use Rattle.clap.specs.Words.{with_rule}
use Rattle.command_line.specs.CommandLine.{flag_rule, on_file, option_rule}
use Rattle.command_line.proofs.commands.cost_command.Goals as goal

pub returns : goal.returns
returns c =
    let cost = on_file (codes "cost") in
    let lines = flag_rule (codes "lines") in
    c.with_arg.ensures (with_rule cost lines) (option_rule (codes "model"))
    (c.with_arg-command.ensures cost lines c.file_command-command.ensures c.flag.ensures.rule
    c.flag.ensures.local) c.option.ensures.rule c.option.ensures.local
