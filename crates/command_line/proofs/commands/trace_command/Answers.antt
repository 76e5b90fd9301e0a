use Rattle.std.proofs.Common.{codes}
use Rattle.command_line.specs.CommandLine.{flag_rule, on_file}
use Rattle.command_line.proofs.commands.trace_command.Goals as goal

pub returns : goal.returns
returns c = c.with_arg.ensures (on_file (codes "trace")) (flag_rule (codes "csv"))
    c.file_command-command.ensures c.flag.ensures.rule c.flag.ensures.local
