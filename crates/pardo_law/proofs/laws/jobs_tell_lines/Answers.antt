use Rattle.pardo_law.proofs.FlatTelling.{jobs_tell_lines}
use Rattle.pardo_law.proofs.laws.jobs_tell_lines.Goals as goal

pub returns : goal.returns
returns c = jobs_tell_lines
