use Rattle.pram_rows.proofs.Losing.{lost_stays}
use Rattle.pram_rows.proofs.fate_laws.lost_stays_lost.Goals as goal

pub returns : goal.returns
returns c = lost_stays
