use Rattle.std.proofs.Common.{◌∙◌}
use Rattle.pram_run.proofs.heard.run_heard.Goals as goal

pub returns-clause-begins : goal.returns-clause-begins
returns-clause-begins g c = c.scoped.ensures.1.1.begins

pub returns-clause-desk : goal.returns-clause-desk
returns-clause-desk g c = c.scoped.ensures.1.1.desk ∙ c.requires.seat
