use Rattle.pram_rows.proofs.LawOne.{one_fates}
use Rattle.pram_rows.proofs.fate_laws.one_fates.Goals as goal

pub returns : goal.returns
returns c = one_fates
