use Rattle.pram_rows.proofs.LawCauses.{lost_causes}
use Rattle.pram_rows.proofs.fate_laws.lost_have_causes.Goals as goal

pub returns : goal.returns
returns c = lost_causes
