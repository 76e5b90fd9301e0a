use Rattle.std.proofs.Common.{codes}
use Rattle.clap.specs.Words.{with_rule}
use Rattle.command_line.specs.CommandLine.{flag_rule, number_rule, with_workers}
use Rattle.command_line.proofs.commands.replay_command.Goals as goal

pub returns : goal.returns
returns c =
    let replay = with_workers (codes "replay") in
    let random = number_rule (codes "random") 0 4294967295 in
    let one = c.with_arg-command.ensures replay random c.workers_command-command.ensures
    c.random.ensures.rule c.random.ensures.local in
    c.with_arg.ensures (with_rule replay random) (flag_rule (codes "csv")) one
    c.flag.ensures.rule c.flag.ensures.local
