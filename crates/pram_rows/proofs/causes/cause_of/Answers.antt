use Rattle.pram_rows.proofs.Causing.{lost_reached}
use Rattle.pram_rows.proofs.causes.cause_of.Goals as goal

pub lost_cause-requires-clause-reached : goal.lost_cause-requires-clause-reached
lost_cause-requires-clause-reached c =
    lost_reached c.args.job.now c.args.steps c.args.fates c.in-Some.lost c.requires c.in-Some.is
