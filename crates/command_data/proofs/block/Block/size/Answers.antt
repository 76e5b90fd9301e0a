use Rattle.command_data.proofs.Blocks.{a_size}
use Rattle.command_data.proofs.block.Block.size.Goals as goal

pub returns-clause-grain : goal.returns-clause-grain
returns-clause-grain c = a_size c.args.self.exponent c.args.self.most
