use Rattle.stop_plan.proofs.Readable.{random_text_spells}
use Rattle.stop_plan.proofs.random_laws.random_text_spells.Goals as goal

pub returns : goal.returns
returns c = random_text_spells
