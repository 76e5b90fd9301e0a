-- A worker that is going, and one that is over: its next operation, and what it becomes with an
-- answer.
use Rattle.std.proofs.Common.{◌≡◌, ◌⊎◌, ℕ, [], ◌∷◌, Some, refl, sym, ap, subst, inl, inr}
use Rattle.pram_job.specs.Job.{JobData}
use Rattle.pram_words.specs.Words.{LayoutData}
use Rattle.walkx.specs.declared.operation.Ended.{Ended}
use Rattle.walkx.specs.declared.operation.Op.{Op}
use Rattle.walkx.specs.Doing.{Doing}
use Rattle.walkx.specs.Doing as doing
use Rattle.walkx.specs.Scripts.{Script, asks, ends, first_op, op_with}
use Rattle.walkx.specs.Walk.{Then, Walking, IsGoing, Matches, next_op, told_by, goes_on}

pub going_or_over : (d : Doing) → IsGoing d ⊎ ((e : Ended) × (d ≡ doing.Over e))
going_or_over doing.Back = inl tt
going_or_over doing.Begin = inl tt
going_or_over (doing.Turn q) = inl tt
going_or_over (doing.Part q rank) = inl tt
going_or_over (doing.Over e) = inr (e, refl)

-- a script asks this first
pub record Asks (s : Script Then) : Type 0 where
  pub op : Op
  pub first : first_op s ≡ Some op

pub asks_of : (d : Doing) (s : Script Then) → IsGoing d → Matches d s → Asks s
asks_of doing.Back s going m = record { op = m.0; first = m.1 }
asks_of doing.Begin s going m = record { op = m.0; first = m.1 }
asks_of (doing.Turn q) s going m = record { op = m.0; first = m.1 }
asks_of (doing.Part q rank) s going m = record { op = m.0; first = m.1 }
asks_of (doing.Over e) s going m = absurd going

pub matches_of : (d : Doing) (s : Script Then) → IsGoing d → Asks s → Matches d s
matches_of doing.Back s going a = (a.op, a.first)
matches_of doing.Begin s going a = (a.op, a.first)
matches_of (doing.Turn q) s going a = (a.op, a.first)
matches_of (doing.Part q rank) s going a = (a.op, a.first)
matches_of (doing.Over e) s going a = absurd going

pub next_of : (d : Doing) (s : Script Then) (op : Op) → IsGoing d →
    first_op s ≡ Some op → next_op d s ≡ op
next_of doing.Back s op going e = rw e
next_of doing.Begin s op going e = rw e
next_of (doing.Turn q) s op going e = rw e
next_of (doing.Part q rank) s op going e = rw e
next_of (doing.Over e') s op going e = absurd going

pub told_going : (job : JobData) (y : LayoutData) (d : Doing) (w : Walking) (found : ℕ)
    (s : Script Then) → IsGoing d → told_by job y d w found s ≡ goes_on job y w found s
told_going job y doing.Back w found s going = refl
told_going job y doing.Begin w found s going = refl
told_going job y (doing.Turn q) w found s going = refl
told_going job y (doing.Part q rank) w found s going = refl
told_going job y (doing.Over e) w found s going = absurd going

pub told_over : (job : JobData) (y : LayoutData) (w : Walking) (found : ℕ) (s : Script Then)
    (d : Doing) (e : Ended) → d ≡ doing.Over e → told_by job y d w found s ≡ w
told_over job y w found s d e is =
    subst (λ (x : Doing). told_by job y x w found s ≡ w) (sym is) refl

pub op_with_first : (s : Script Then) (op : Op) (found : ℕ) → first_op s ≡ Some op →
    op_with s found ≡ (op, found) ∷ []
op_with_first (asks o next) op found e =
    let same : o ≡ op = cc in ap (λ (x : Op). (x, found) ∷ []) same
op_with_first (ends r) op found e = absurd (cc)
