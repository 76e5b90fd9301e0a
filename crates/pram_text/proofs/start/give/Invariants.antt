use Rattle.std.proofs.Common.{◌≡◌, ℕ, length, take}
use Rattle.std.specs.Option.{option_or}
use Rattle.pram_text.specs.Judgement.{gives}
use Rattle.pram_text.specs.Text.{value_by}
use Rattle.pram_text.specs.Inner.Reading.{value_given}
use Rattle.pram_text.proofs.start.give.Given as goal

-- the first k values are given
abbrev pub invariant-loop-k : goal.invariant-loop-k
invariant-loop-k l =
    (length l.start ≡ length l.fn.start)
    × ((c : ℕ) → value_given l.start c
    ≡ option_or (value_by (gives l.fn.first (take l.k l.values)) c) (value_given l.fn.start c))
