-- What a script that is played back comes to.
use Rattle.std.proofs.Common.{◌≡◌, length, Some, Result, Ok, Err, refl, arith}
use Rattle.walkx.specs.declared.left.Stopped.{Stopped}
use Rattle.walkx.specs.declared.operation.Op.{Op}
use Rattle.walkx.specs.declared.playback.Playback.{Playback}
use Rattle.walkx.specs.Driving.{Reaches}
use Rattle.walk_memory.specs.Inner.Posts.{PostData}
use Rattle.walkx.specs.Inner.Heard.{newest}
use Rattle.walkx.specs.Playing.{AsksOperation, Played, stands_back}
use Rattle.walkx.specs.Scripts.{Script, ends, first_op, heard_in, rest}
use Rattle.walkx.specs.Walk.{Then, AllAdmitted}
use Rattle.walkx.proofs.Back.{ended_stays}

-- it ended so, or this operation has no answer yet
abbrev pub Came : {A : Type 0} → Script Then → (A → Then) → Op → Result A Stopped → Type 0
Came s to op (Ok a) = s ≡ ends (to a)
Came s to op (Err why) = first_op s ≡ Some op

module _ {A : Type 0} (at : PostData) (s : Script Then)
    (d : Playback) (to : A → Then) (none : d.played ≡ 0) (admitted : AllAdmitted at.job at.layout
    (heard_in s (newest (length d.heard.now) d.heard.now))) where
  pub starts_back : Played at (d, s) d s
  starts_back =
      record { same = refl; within = omega arith; here = rw none refl; admitted = admitted }

  pub came_back : (e : Playback) (r : Result A Stopped) → Reaches (stands_back at) d s to e r →
      Came (rest s (newest (length d.heard.now) d.heard.now)) to e.held_op r
  came_back e (Ok a) reaches =
      let p : Played at (d, s) e (ends (to a)) = reaches.on (d, s) starts_back in
      let all : rest s (newest (length e.heard.now) e.heard.now) ≡ ends (to a) =
      ended_stays s (to a) e.heard.now e.played (length e.heard.now) p.within p.here in
      rw p.same at all
  came_back e (Err why) reaches =
      let a : AsksOperation (d, s) e = reaches.on (d, s) starts_back in
      rw a.same at a.op
