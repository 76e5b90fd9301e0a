use Rattle.exercise_words.proofs.Records.{what_did_not_pass_fails}
use Rattle.exercise_words.proofs.laws.what_did_not_pass_fails.Goals as goal

pub returns : goal.returns
returns c = what_did_not_pass_fails
