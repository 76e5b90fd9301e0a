use Rattle.std.proofs.Common.{◌≡◌, ◌++◌, map, take}
use Rattle.std.specs.List.{flat_map}
use Rattle.pardo_text.specs.Settings.{numbers_set, refilled_by}
use Rattle.pardo_text.proofs.settings.Settings.settled_with.Given as goal

-- the settings, and the arrays so far
abbrev pub invariant-loop-array : goal.invariant-loop-array
invariant-loop-array l = l.settled ≡ map (numbers_set l.sized) l.self
    ++ flat_map (refilled_by l.sized l.self l.text) (take l.array-index l.own)
