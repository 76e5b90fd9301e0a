use Rattle.std.proofs.Common.{codes}
use Rattle.command_line.specs.CommandLine.{list_rule, on_text}
use Rattle.command_line.proofs.commands.file_command.Goals as goal

pub returns : goal.returns
returns c = c.with_arg.ensures (on_text c.args.name.now) (list_rule (codes "set"))
    c.text_command-command.ensures c.list.ensures.rule c.list.ensures.local
