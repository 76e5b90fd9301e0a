use Rattle.std.proofs.Common.{◌≡◌, ◌==◌, length}
use Rattle.std.specs.List.{slice_split}
use Rattle.pardo_text.specs.Inner.Settings.{fields_left}
use Rattle.pardo_text.specs.Settings.{with_fields}
use Rattle.pardo_text.proofs.settings.push_fields.Given as goal

abbrev pub invariant-loop-left : goal.invariant-loop-left
invariant-loop-left l =
    with_fields l.fn.values.items (slice_split (λ b. b == 44) l.line)
    ≡ with_fields l.values.items (fields_left l.left)

abbrev pub decreases-loop-left : goal.decreases-loop-left
decreases-loop-left l = length (fields_left l.left)
