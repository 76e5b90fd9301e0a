use Rattle.pardo_law.proofs.Ruling.{any_writer_counts}
use Rattle.pardo_law.proofs.laws.any_writer_counts.Goals as goal

pub returns : goal.returns
returns c = any_writer_counts
