use Rattle.pram_rows.proofs.Plain.{instruction-plain, target-plain}
use Rattle.pram_rows.proofs.laws.numbers_have_no_quotes.Goals as goal

pub returns : goal.returns
returns c = λ lines job index i put is low own.
    (instruction-plain lines job index is, target-plain lines job i put is low own)
