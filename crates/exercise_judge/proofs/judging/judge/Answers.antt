use Rattle.std.proofs.Common.{List, All, arith, rules, subst}
use Rattle.std.proofs.lemmas.List.{take_all}
use Rattle.std.proofs.lemmas.List.Elements.{All-more}
use Rattle.exercise_judge.specs.Trials.{Meets, TrialData}
use Rattle.exercise_judge.proofs.judging.judge.Goals as goal

pub loop-trial-preserved : goal.loop-trial-preserved
loop-trial-preserved c = (
  omega arith,
  All-more (λ (t : TrialData). Meets t c.args.submission.now) c.args.trials.now
      c.loop-trial.trial-index c.trial-item.result (omega (arith, c.loop-trial-test.true))
      c.loop-trial.invariant.1 (search rules),
)

pub returns : goal.returns
returns c =
    subst (λ (l : List TrialData). All (λ (t : TrialData). Meets t c.args.submission.now) l)
    (take_all c.loop-trial.trial-index c.args.trials.now (omega (arith, c.loop-trial-test.false)))
    c.loop-trial.invariant.1
