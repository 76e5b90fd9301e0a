use Rattle.std.proofs.Common.{◌≡◌, drop}
use Rattle.pardo_text.specs.Settings.{unmet_from}
use Rattle.pardo_text.proofs.settings.Settings.unmet.Given as goal

-- the settings so far are met
abbrev pub invariant-loop-at : goal.invariant-loop-at
invariant-loop-at l =
    unmet_from 0 l.self l.text ≡ unmet_from l.at (drop l.at l.self) l.text
