use Rattle.stop_plan.proofs.Readable.{text_spells_plan}
use Rattle.stop_plan.proofs.random_laws.text_spells_plan.Goals as goal

pub returns : goal.returns
returns c = text_spells_plan
