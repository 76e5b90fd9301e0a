use Rattle.std.proofs.Common.{take}
use Rattle.exercise_judge.specs.Trials.{HaveValues}
use Rattle.exercise_judge.proofs.known.check_known.Given as goal

-- the names so far have values
abbrev pub invariant-loop-want : goal.invariant-loop-want
invariant-loop-want l = HaveValues (take l.want-index l.wanted)
