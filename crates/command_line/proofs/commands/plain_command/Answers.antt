use Rattle.std.proofs.Common.{codes}
use Rattle.command_line.specs.CommandLine.{on_file, option_rule, with_style}
use Rattle.command_line.proofs.commands.plain_command.Goals as goal

pub returns : goal.returns
returns c =
    let plain = on_file (codes "plain") in
    c.with_arg.ensures (with_style plain) (option_rule (codes "model"))
    (c.with_style-command.ensures plain c.file_command-command.ensures) c.option.ensures.rule
    c.option.ensures.local
