use Rattle.std.proofs.Common.{◌≡◌, ◌++◌, map, take}
use Rattle.pardo_text.specs.Settings.{numbers_set}
use Rattle.pardo_text.proofs.settings.Settings.push_numbers.Given as goal

-- the settings so far
abbrev pub invariant-loop-setting : goal.invariant-loop-setting
invariant-loop-setting l =
    l.settled ≡ l.fn.settled ++ map (numbers_set l.sized) (take l.setting-index l.self)
