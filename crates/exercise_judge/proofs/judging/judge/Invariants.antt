use Rattle.std.proofs.Common.{◌≡◌, All, take}
use Rattle.exercise_judge.specs.Trials.{Meets}
use Rattle.exercise_judge.proofs.judging.judge.Given as goal

-- the trials so far are counted, and are met
abbrev pub invariant-loop-trial : goal.invariant-loop-trial
invariant-loop-trial l = (l.input ≡ l.trial-index)
    × All (λ trial. Meets trial l.submission) (take l.trial-index l.trials)
