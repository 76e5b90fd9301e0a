use Rattle.naming.proofs.LoopRounds.{nest_there}
use Rattle.naming.proofs.rounds.variable_value.Goals as goal

pub loop_variable-cells-requires : goal.loop_variable-cells-requires
loop_variable-cells-requires c =
    nest_there c.args.view.now.program.now c.args.view.now.layout.now c.args.nest
    c.requires.layout c.requires.nest
