use Rattle.job_text.proofs.Landing.{jumps_land}
use Rattle.job_text.proofs.laws.spelled_jumps_land.Goals as goal

pub returns : goal.returns
returns c = jumps_land
