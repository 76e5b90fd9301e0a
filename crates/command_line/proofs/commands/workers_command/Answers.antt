use Rattle.std.proofs.Common.{◌∙◌, ap, codes}
use Rattle.clap.specs.Words.{with_rule}
use Rattle.command_line.specs.CommandLine.{has_to_stand, number_rule, on_file, option_rule}
use Rattle.command_line.proofs.commands.workers_command.Goals as goal

pub returns : goal.returns
returns c =
    let command = on_file c.args.name.now in
    let workers = has_to_stand (number_rule (codes "workers") 1 64) in
    let with_those = c.with_arg-command.ensures command workers c.file_command-command.ensures
    (c.needed.ensures.rule ∙ ap has_to_stand c.workers.ensures.rule)
    (c.needed.ensures.local ∙ c.workers.ensures.local) in
    c.with_arg.ensures (with_rule command workers) (option_rule (codes "plan")) with_those
    c.option.ensures.rule c.option.ensures.local
