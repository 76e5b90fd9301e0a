use Rattle.std.proofs.Common.{refl}
use Rattle.clap.specs.Words.{with_subcommand}
use Rattle.command_line.specs.CommandLine.{on_machine, on_replay, on_run, on_trace, on_watch}
use Rattle.command_line.proofs.line.command.Goals as goal

pub returns : goal.returns
returns c =
    let traced = with_subcommand on_machine on_trace.top in
    let run = with_subcommand traced on_run.top in
    let watched = with_subcommand run on_watch.top in
    let one = c.with-command.ensures on_machine on_trace refl c.machine_command.ensures
    c.trace_command.ensures in
    let two = c.with-command-2.ensures traced on_run refl one c.run_command.ensures in
    let three = c.with-command-3.ensures run on_watch refl two c.watch_command.ensures in
    c.with.ensures watched on_replay refl three c.replay_command.ensures
