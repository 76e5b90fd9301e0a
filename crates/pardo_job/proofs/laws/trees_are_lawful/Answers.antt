use Rattle.pardo_job.proofs.Trees.{lawful_tree}
use Rattle.pardo_job.proofs.laws.trees_are_lawful.Goals as goal

pub returns : goal.returns
returns c = lawful_tree
