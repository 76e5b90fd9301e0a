use Rattle.pram_rows.proofs.LawCauses.{clash_written}
use Rattle.pram_rows.proofs.fate_laws.clash_values_are_written.Goals as goal

pub returns : goal.returns
returns c = clash_written
