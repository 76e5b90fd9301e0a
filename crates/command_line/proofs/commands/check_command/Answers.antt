use Rattle.std.proofs.Common.{codes}
use Rattle.command_line.specs.CommandLine.{on_file, option_rule}
use Rattle.command_line.proofs.commands.check_command.Goals as goal

pub returns : goal.returns
returns c = c.with_arg.ensures (on_file (codes "check")) (option_rule (codes "model"))
    c.file_command-command.ensures c.option.ensures.rule c.option.ensures.local
