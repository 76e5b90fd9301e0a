use Rattle.std.proofs.Common.{◌≡◌, ℕ, take}
use Rattle.pardo_text.specs.Settings.{with_first}
use Rattle.command_answers.specs.Sweeping.{AreSizes}
use Rattle.command_answers.proofs.sweep.sizes.Given as goal

-- the records so far are those of the values so far, and the first name is set as if none came
-- before
abbrev pub invariant-loop-value : goal.invariant-loop-value
invariant-loop-value l =
    AreSizes l.fn.settings l.text (take l.value-index l.values) l.bytes.items l.status
    × ((value : ℕ) → with_first l.settings value ≡ with_first l.fn.settings value)
