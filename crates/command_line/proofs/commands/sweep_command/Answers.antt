use Rattle.std.proofs.Common.{◌∙◌, ap, codes}
use Rattle.command_line.specs.CommandLine.{list_rule, has_to_stand, on_text}
use Rattle.command_line.proofs.commands.sweep_command.Goals as goal

pub returns : goal.returns
returns c = c.with_arg.ensures (on_text (codes "sweep")) (has_to_stand (list_rule (codes "set")))
    c.text_command-command.ensures (c.needed.ensures.rule ∙ ap has_to_stand c.list.ensures.rule)
    (c.needed.ensures.local ∙ c.list.ensures.local)
