use Rattle.std.proofs.Common.{◌∙◌, ap, codes}
use Rattle.clap.specs.Words.{with_rule}
use Rattle.command_line.specs.CommandLine.{has_to_stand, number_rule, option_rule, with_workers}
use Rattle.command_line.proofs.commands.watch_command.Goals as goal

pub returns : goal.returns
returns c =
    let watch = with_workers (codes "watch") in
    let cells = has_to_stand (option_rule (codes "cells")) in
    let rounds = has_to_stand (number_rule (codes "rounds") 1 1000000) in
    let one = c.with_arg-command.ensures watch cells c.workers_command-command.ensures
    (c.needed.ensures.rule ∙ ap has_to_stand c.option-cells.ensures.rule)
    (c.needed.ensures.local ∙ c.option-cells.ensures.local) in
    let two = c.with_arg-command-2.ensures (with_rule watch cells) rounds one
    (c.needed-2.ensures.rule ∙ ap has_to_stand c.rounds.ensures.rule)
    (c.needed-2.ensures.local ∙ c.rounds.ensures.local) in
    c.with_manner.ensures (with_rule (with_rule watch cells) rounds) two
