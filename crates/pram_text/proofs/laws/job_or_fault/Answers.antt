use Rattle.pram_text.proofs.LawEveryText.{spells_or_bears}
use Rattle.pram_text.proofs.laws.job_or_fault.Goals as goal

pub returns : goal.returns
returns c = spells_or_bears
