use Rattle.command_law.proofs.Texts.{compile_prints}
use Rattle.command_law.proofs.laws.compile_prints_the_same_job.Goals as goal

pub returns : goal.returns
returns c = compile_prints
