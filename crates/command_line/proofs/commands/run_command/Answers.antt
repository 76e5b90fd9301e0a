use Rattle.std.proofs.Common.{codes}
use Rattle.command_line.specs.CommandLine.{with_manner, with_workers}
use Rattle.command_line.proofs.commands.run_command.Goals as goal

pub returns : goal.returns
returns c =
    let run = with_workers (codes "run") in
    c.with_style.ensures (with_manner run)
    (c.with_manner-command.ensures run c.workers_command-command.ensures)
