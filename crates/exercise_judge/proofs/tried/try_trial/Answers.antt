use Rattle.exercise_text.specs.Submissions.{judged_text}
use Rattle.exercise_judge.proofs.tried.try_trial.Goals as goal

pub returns-in-Ok-judge_run : goal.returns-in-Ok-judge_run
returns-in-Ok-judge_run c = record {
  outcome = c.in-Ok-judge_run.ensures.judged;
  figures = c.figures_of.ensures (judged_text c.args.trial.now.header c.args.submission.now)
      c.in-Ok.ensures.run;
}

pub returns : goal.returns
returns c = record {
  outcome = (c.in-Err-judge_run.ensures.judged, c.in-Err-judge_run.ensures.wrong);
  figures = c.figures_of.ensures (judged_text c.args.trial.now.header c.args.submission.now)
      c.in-Ok.ensures.run;
}
