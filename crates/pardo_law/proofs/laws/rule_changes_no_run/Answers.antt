use Rattle.pardo_law.proofs.Ruling.{same_after}
use Rattle.pardo_law.proofs.laws.rule_changes_no_run.Goals as goal

pub returns : goal.returns
returns c = same_after
