use Rattle.std.proofs.Common.{◌≡◌, ◌∙◌, ap, codes}
use Rattle.clap.specs.Words.{app_of, new_app, with_rule}
use Rattle.command_line.specs.CommandLine.{flag_rule, has_to_stand, placed_rule}
use Rattle.command_line.proofs.commands.named_command.Goals as goal

pub returns : goal.returns
returns c =
    let named = new_app c.args.name.now in
    let file = has_to_stand (placed_rule (codes "file")) in
    let is_named : app_of c.about-command.result ≡ named =
    rw c.about-command.ensures c.new.ensures.app in
    let with_file = c.with_arg-command.ensures named file is_named
    (c.needed.ensures.rule ∙ ap has_to_stand c.requires.rule)
    (c.needed.ensures.local ∙ c.requires.local) in
    c.with_arg.ensures (with_rule named file) (flag_rule (codes "explain")) with_file
    c.flag.ensures.rule c.flag.ensures.local
