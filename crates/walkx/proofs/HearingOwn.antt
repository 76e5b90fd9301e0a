-- The words of a processor's own places, heard in turn.
use Rattle.std.proofs.Common.{ℕ, List, [], ◌∷◌}
use Rattle.walk_memory.specs.Inner.Posts.{PostData}
use Rattle.walkx.specs.Parts.{register_at_post}
use Rattle.walkx.specs.Scripts.{Script}
use Rattle.walkx.specs.Walk.{Then}
use Rattle.walkx.specs.WideParts.{heard_before}

module _ (at : PostData) (late : Script Then) (next : List ℕ → Script Then) where
  abbrev pub all_heard : ℕ → ℕ → ℕ → ℕ → ℕ → Script Then
  all_heard k a b c d = next (k ∷ a ∷ b ∷ c ∷ d ∷ [])

  abbrev pub last_next : ℕ → ℕ → ℕ → ℕ → Script Then
  last_next k a b c = heard_before at (register_at_post at 3) late (all_heard k a b c)

  abbrev pub third_next : ℕ → ℕ → ℕ → Script Then
  third_next k a b = heard_before at (register_at_post at 2) late (last_next k a b)

  abbrev pub second_next : ℕ → ℕ → Script Then
  second_next k a = heard_before at (register_at_post at 1) late (third_next k a)

  abbrev pub first_next : ℕ → Script Then
  first_next k = heard_before at (register_at_post at 0) late (second_next k)
