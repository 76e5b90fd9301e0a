use Rattle.std.proofs.lemmas.Result.{IfErr-weaker}
use Rattle.exercise_judge.specs.Wrongs.{IsWrong, IsWrongIn}
use Rattle.exercise_judge.proofs.Wronging.{of_run}
use Rattle.exercise_judge.proofs.judging.judge_run.Goals as goal

pub returns-clause-wrong : goal.returns-clause-wrong
returns-clause-wrong c =
    let trial = c.args.trial.now in
    let submission = c.args.submission.now in
    let run = c.args.run.now in
    IfErr-weaker c.check_run.result (IsWrongIn trial submission run) (IsWrong trial submission)
    (of_run trial submission run c.requires.given c.requires.run) c.check_run.ensures.wrong
