-- The end of a task, late or not.
use Rattle.std.proofs.Common.{◌≡◌, Some, None, Result, Ok, Err, refl, sym, ap}
use Rattle.walk_memory.specs.declared.memo.Memo.{Memo}
use Rattle.walkx.specs.Scripts.{Script}
use Rattle.walkx.specs.Walk.{Then}
use Rattle.walkx.specs.declared.left.Left.{Left}
use Rattle.walkx.specs.declared.left.Stopped.{Stopped}
use Rattle.walkx.specs.declared.left.Left.TheVariants.{Late, Held}
use Rattle.walkx.specs.Driving.{comes, goes, learns, learns_all, loads, settled_or_late}

pub settled_ok : (r : Result (Unit {0}) Left) (after : Script Then) (done : Unit {0}) →
    settled_or_late r ≡ Ok done → comes after (λ (d : Unit {0}). after) r ≡ Some after
settled_ok (Ok d) after done is = refl
settled_ok (Err Late) after done is = refl
settled_ok (Err Held) after done is = absurd (cc)

pub settled_err : (r : Result (Unit {0}) Left) (after : Script Then) (why : Stopped) →
    settled_or_late r ≡ Err why → comes after (λ (d : Unit {0}). after) r ≡ None
settled_err (Ok d) after why is = absurd (cc)
settled_err (Err Late) after why is = absurd (cc)
settled_err (Err Held) after why is = refl

pub settled_goes : (r : Result (Unit {0}) Left) (after : Script Then) →
    comes after (λ (d : Unit {0}). after) r ≡ goes (λ (d : Unit {0}). after) (settled_or_late r)
settled_goes (Ok d) after = refl
settled_goes (Err Late) after = refl
settled_goes (Err Held) after = refl

-- where nothing was loaded, what is known is what it was
pub left_known : (why : Left) (memo known : Memo) (late : Script Then)
    (next f : Memo → Script Then) →
    (why ≡ Late → known ≡ memo) →
    comes (next memo) f (loads (Err why) known) ≡ comes late next (learns (Err why) known)
left_known Late memo known late next f same = ap (λ (m : Memo). Some (next m)) (sym (same refl))
left_known Held memo known late next f same = refl

-- what is known is what it was, late or not
pub learned_comes : (r : Result (Unit {0}) Left) (memo : Memo) (late : Script Then)
    (next : Memo → Script Then) →
    comes (next memo) (λ done. next memo) r ≡ comes late next (learns r memo)
learned_comes (Ok done) memo late next = refl
learned_comes (Err Late) memo late next = refl
learned_comes (Err Held) memo late next = refl

-- a task in a block, late or not
pub learned_goes : (r : Result (Unit {0}) Left) (memo : Memo) (late : Script Then)
    (next : Memo → Script Then) →
    comes late next (learns r memo) ≡ goes next (learns_all (settled_or_late r) memo)
learned_goes (Ok done) memo late next = refl
learned_goes (Err Late) memo late next = refl
learned_goes (Err Held) memo late next = refl

pub ok_same : {A E : Type 0} {a b : A} → (let left : Result A E = Ok a in left ≡ Ok b) → a ≡ b
ok_same e = cc
