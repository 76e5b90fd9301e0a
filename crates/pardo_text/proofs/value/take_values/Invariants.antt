use Rattle.std.proofs.Common.{◌≡◌, ◌-◌, length}
use Rattle.pardo_text.specs.Inner.Names.{names_in}
use Rattle.pardo_text.specs.Inner.Values.{after_values}
use Rattle.pardo_text.specs.Values.{values_in}
use Rattle.pardo_text.proofs.value.take_values.Given as goal

abbrev pub invariant-loop-turn : goal.invariant-loop-turn
invariant-loop-turn l =
    after_values l.initial.values.items
    (values_in (names_in l.names) (length l.initial.tokens) l.initial.tokens)
    ≡ after_values l.values.items (values_in (names_in l.names) (l._turn-end - l._turn) l.tokens)
