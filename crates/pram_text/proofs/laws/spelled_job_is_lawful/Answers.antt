use Rattle.pram_text.proofs.Lawful.{spells_lawful}
use Rattle.pram_text.proofs.laws.spelled_job_is_lawful.Goals as goal

pub returns : goal.returns
returns c = spells_lawful
