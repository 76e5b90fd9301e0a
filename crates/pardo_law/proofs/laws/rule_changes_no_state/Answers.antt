use Rattle.pardo_law.proofs.Ruling.{rule_changes_no_state}
use Rattle.pardo_law.proofs.laws.rule_changes_no_state.Goals as goal

pub returns : goal.returns
returns c = rule_changes_no_state
