use Rattle.std.proofs.Common.{◌≡◌, All, take}
use Rattle.std.specs.Prelude.{slice_index}
use Rattle.exercise_text.specs.Values.{held_by}
use Rattle.exercise_judge.proofs.check.check_values.Given as goal

-- the names so far hold what is wanted
abbrev pub invariant-loop-want : goal.invariant-loop-want
invariant-loop-want l = All (λ want. held_by l.arrays (slice_index l.cells) want.name
    ≡ want.values) (take l.want-index l.wanted)
