use Rattle.pram_step.proofs.LawRules.{next_for_priority}
use Rattle.pram_step.proofs.laws.next_of_each_rule_is_next_of_priority.Goals as goal

pub returns : goal.returns
returns c = next_for_priority
