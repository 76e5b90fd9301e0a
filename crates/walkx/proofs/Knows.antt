-- What is known of a processor before a step: remembered, or loaded.
use Rattle.std.proofs.Common.{◌≡◌, ◌==◌, suc, false, refl, Result}
use Rattle.walkx.specs.declared.left.Left.{Left}
use Rattle.walk_memory.specs.declared.memo.Memo.{Memo}
use Rattle.walkx.specs.Driving.{IsNextPart, Plays, Standing}
use Rattle.walk_memory.specs.Inner.Posts.{PostData, step_of}
use Rattle.walkx.specs.Scripts.{Script}
use Rattle.walkx.specs.Walk.{Then}
use Rattle.walkx.specs.WideParts.{memo_known, memo_loaded}
use Rattle.walkx.proofs.Passes.{next_as, plays_as}

module _ {D : Type 0} (stands : Standing D) (at : PostData) (memo : Memo) (old : D)
    (other : (suc memo.step == step_of at) ≡ false) where
  same : (late : Script Then) (next : Memo → Script Then) →
      memo_known at memo late next ≡ memo_loaded at late next
  same late next = rw other refl

  pub loads_next : IsNextPart stands old (memo_known at memo) → IsNextPart stands old
      (memo_loaded at)
  loads_next is = next_as stands old _ _ same is

  pub loads_plays : (new : D) (result : Result Memo Left) →
      Plays stands old (memo_loaded at) new result →
      Plays stands old (memo_known at memo) new result
  loads_plays new result plays = plays_as stands old _ _ same new result plays
