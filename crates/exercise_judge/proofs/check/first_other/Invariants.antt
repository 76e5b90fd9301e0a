use Rattle.std.proofs.Common.{◌≡◌, take}
use Rattle.exercise_judge.proofs.check.first_other.Given as goal

-- the places so far hold the same
abbrev pub invariant-loop-at : goal.invariant-loop-at
invariant-loop-at l = take l.at l.held ≡ take l.at l.wanted
