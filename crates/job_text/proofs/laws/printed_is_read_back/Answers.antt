use Rattle.job_text.proofs.ReadBack.{read_back}
use Rattle.job_text.proofs.laws.printed_is_read_back.Goals as goal

pub returns : goal.returns
returns c = read_back
