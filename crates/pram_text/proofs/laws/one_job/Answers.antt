use Rattle.pram_text.proofs.LawOneJob.{spells_once}
use Rattle.pram_text.proofs.laws.one_job.Goals as goal

pub returns : goal.returns
returns c = spells_once
