use Rattle.pram_step.proofs.LawRules.{next_from_crew}
use Rattle.pram_step.proofs.laws.next_of_crew_is_next_of_each_rule.Goals as goal

pub returns : goal.returns
returns c = next_from_crew
