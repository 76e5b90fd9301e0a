use Rattle.std.proofs.Common.{rules}
use Rattle.exercise_judge.proofs.tried.figures_of.Goals as goal

pub returns : goal.returns
returns c = λ text is. (
  c.args.run.now,
  is,
  record {
    gone = search rules;
    time = search rules;
    operations = search rules;
    steps = search rules;
    needs = c.needs.ensures c.args.run.now.job is.1.cost;
  },
)
