use Rattle.std.proofs.Common.{codes}
use Rattle.command_line.specs.CommandLine.{number_rule, with_progress}
use Rattle.command_line.proofs.commands.with_manner.Goals as goal

pub returns : goal.returns
returns c = λ app made. c.with_arg.ensures (with_progress app) (number_rule (codes "block") 1 64)
    (c.with_progress.ensures app made) c.block.ensures.rule c.block.ensures.local
