use Rattle.std.proofs.Common.{◌∙◌, ap, codes}
use Rattle.command_line.specs.CommandLine.{has_to_stand, on_text, placed_rule, several_rule}
use Rattle.command_line.proofs.commands.judge_command.Goals as goal

pub returns : goal.returns
returns c = c.with_arg.ensures (on_text (codes "judge"))
    (has_to_stand (several_rule (placed_rule (codes "files")))) c.named_command-command.ensures
    (c.needed.ensures.rule ∙ ap has_to_stand (c.several.ensures.rule
    ∙ ap several_rule c.placed-submissions.ensures.rule))
    (c.needed.ensures.local ∙ c.several.ensures.local ∙ c.placed-submissions.ensures.local)
