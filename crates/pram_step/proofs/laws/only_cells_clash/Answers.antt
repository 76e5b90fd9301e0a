use Rattle.pram_step.proofs.LawPlaces.{one_write}
use Rattle.pram_step.proofs.laws.only_cells_clash.Goals as goal

pub returns : goal.returns
returns c = one_write
