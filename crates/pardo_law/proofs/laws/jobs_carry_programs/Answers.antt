use Rattle.pardo_law.proofs.FlatCarrying.{jobs_carry_programs}
use Rattle.pardo_law.proofs.laws.jobs_carry_programs.Goals as goal

pub returns : goal.returns
returns c = jobs_carry_programs
