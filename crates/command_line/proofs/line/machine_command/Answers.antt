use Rattle.std.proofs.Common.{codes, refl}
use Rattle.clap.specs.Words.{with_subcommand}
use Rattle.command_line.specs.CommandLine.{bare, on_check, on_cost, on_file, on_plain, on_steps}
use Rattle.command_line.specs.CommandLine.{on_judge, on_sweep}
use Rattle.command_line.proofs.line.machine_command.Goals as goal

pub returns : goal.returns
returns c =
    let compile = on_file (codes "compile") in
    let checked = with_subcommand bare on_check.top in
    let compiled = with_subcommand checked compile.top in
    let plain = with_subcommand compiled on_plain.top in
    let cost = with_subcommand plain on_cost.top in
    let swept = with_subcommand cost on_sweep.top in
    let judged = with_subcommand swept on_judge.top in
    let one = c.with-command.ensures bare on_check refl c.bare_command.ensures
    c.check_command.ensures in
    let two = c.with-command-2.ensures checked compile refl one c.file_command.ensures in
    let three = c.with-command-3.ensures compiled on_plain refl two c.plain_command.ensures in
    let four = c.with-command-4.ensures plain on_cost refl three c.cost_command.ensures in
    let five = c.with-command-5.ensures cost on_sweep refl four c.sweep_command.ensures in
    let six = c.with-command-6.ensures swept on_judge refl five c.judge_command.ensures in
    c.with.ensures judged on_steps refl six c.steps_command.ensures
