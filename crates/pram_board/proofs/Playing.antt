-- Parts of a script that are played one after the other.
use Rattle.std.proofs.Common.{◌≡◌, ℕ, ◌+◌, ◌%◌, ◌^◌, ◌<◌, List, [], ◌∷◌, ◌++◌, length, Some, refl}
use Rattle.std.proofs.Common.{sym, ap, subst, ◌∙◌, arith}
use Rattle.std.proofs.lemmas.List.{append_assoc}
use Rattle.pram_job.specs.Job.{JobData}
use Rattle.pram_words.specs.Words.{LayoutData}
use Rattle.walkx.specs.declared.operation.Op.{Op}
use Rattle.walkx.specs.Scripts.{Script, asks, rest_after, first_op, op_with, rest, heard_in}
use Rattle.walkx.specs.Walk.{Then, AllAdmitted, HearsAdmitted}
use Rattle.lawful_walk.specs.Moments.{afters}
use Rattle.walkx.specs.Records.{Record, after}
use Rattle.pram_board.specs.declared.task.Task.{Task}
use Rattle.pram_board.specs.Seats.{hears}
use Rattle.pram_board.specs.Inner.Plays.{AllAnswer, Driving, PlaysScript}

-- the rest after further answers
rest_more : (s : Script Then) (more before : List ℕ) → rest s (more ++ before) ≡ rest
    (rest s before) more
rest_more s [] before = refl
rest_more s (found ∷ more) before = ap (λ (t : Script Then). rest_after t found)
    (rest_more s more before)

heard_more : (s : Script Then) (more before : List ℕ) → heard_in s (more ++ before) ≡ heard_in
    (rest s before) more ++ heard_in s before
heard_more s [] before = refl
heard_more s (found ∷ more) before =
    rw (rest_more s more before, heard_more s more before) (sym (append_assoc (op_with (rest
    (rest s before) more) found) (heard_in (rest s before) more) (heard_in s before)))

answer_more : (s : Script Then) (more before : List ℕ) → AllAnswer s before →
    AllAnswer (rest s before) more → AllAnswer s (more ++ before)
answer_more s [] before first second = first
answer_more s (found ∷ more) before first second = (
  subst (λ (r : Script Then). (op : Op) × (first_op r ≡ Some op)) (sym
      (rest_more s more before)) second.0,
  answer_more s more before first second.1,
)

pub admitted_more : (job : JobData) (y : LayoutData) (xs ys : List (Op × ℕ)) →
    AllAdmitted job y xs → AllAdmitted job y ys → AllAdmitted job y (xs ++ ys)
admitted_more job y [] ys first second = second
admitted_more job y (x ∷ xs) ys first second = (first.0, admitted_more job y xs ys first.1 second)

pub afters_more : (r : Record) (xs ys : List (Op × ℕ)) → afters r (ys ++ xs) ≡ afters
    (afters r xs) ys
afters_more r xs [] = refl
afters_more r xs (y ∷ ys) = ap (λ (s : Record). after s y.0 y.1) (afters_more r xs ys)

count_more : (m n k a b : ℕ) → n % 2 ^ 64 ≡ (m + a) % 2 ^ 64 → k % 2 ^ 64 ≡ (n + b) % 2 ^ 64 →
    k % 2 ^ 64 ≡ (m + (b + a)) % 2 ^ 64
count_more m n k a b first second = omega arith

count_one : (m n : ℕ) → n ≡ (m + 1) % 2 ^ 64 → n % 2 ^ 64 ≡ (m + 1) % 2 ^ 64
count_one m n is = omega arith

pub length_more : (xs ys : List ℕ) → length (xs ++ ys) ≡ length xs + length ys
length_more [] ys = omega arith
length_more (x ∷ xs) ys = let e = length_more xs ys in omega arith

below_count : (m n : ℕ) → n ≡ (m + 1) % 2 ^ 64 → n < 2 ^ 64
below_count m n is = omega arith

still_count : (m : ℕ) → m % 2 ^ 64 ≡ (m + 0) % 2 ^ 64
still_count m = omega arith

-- nothing was played yet
pub still : (t : Task) (s : Script Then) (p : Driving) → PlaysScript t s p s p
still t s p = record {
  answers = [];
  each = tt;
  comes = refl;
  admitted = tt;
  desk = refl;
  seat = refl;
  count = still_count p.made;
  small = λ h. h;
}

-- one step
pub one_step : (t : Task) (op : Op) (next : ℕ → Script Then) (found : ℕ) (p q : Driving) →
    HearsAdmitted t.job t.layout op found → q.desk ≡ p.desk → q.seat ≡ hears p.seat op found →
    q.made ≡ (p.made + 1) % 2 ^ 64 → PlaysScript t (asks op next) p (next found) q
one_step t op next found p q ok desk seat count = record {
  answers = found ∷ [];
  each = ((op, refl), tt);
  comes = refl;
  admitted = (ok, tt);
  desk = desk;
  seat = seat;
  count = count_one p.made q.made count;
  small = λ h. below_count p.made q.made count;
}

-- one part after the other
pub joined : (t : Task) (s u v : Script Then) (a b c : Driving) →
    PlaysScript t s a u b → PlaysScript t u b v c → PlaysScript t s a v c
joined t s u v a b c first second = record {
  answers = second.answers ++ first.answers;
  each = answer_more s second.answers first.answers first.each
      (subst (λ (r : Script Then). AllAnswer r second.answers) (sym first.comes) second.each);
  comes = rest_more s second.answers first.answers
      ∙ ap (λ (r : Script Then). rest r second.answers) first.comes ∙ second.comes;
  admitted = rw (heard_more s second.answers first.answers) (admitted_more t.job t.layout _ _
      (subst (λ (r : Script Then). AllAdmitted t.job t.layout (heard_in r second.answers))
      (sym first.comes) second.admitted) first.admitted);
  desk = second.desk ∙ first.desk;
  seat = rw (heard_more s second.answers first.answers, first.comes) (second.seat
      ∙ rw first.seat (ap (λ (r : Record). record { desk = a.seat.desk; record_of = r })
      (sym (afters_more a.seat.record_of (heard_in s first.answers)
      (heard_in u second.answers)))));
  count = count_more a.made b.made c.made (length first.answers) (length second.answers)
      first.count second.count
      ∙ ap (λ (n : ℕ). (a.made + n) % 2 ^ 64) (sym (length_more second.answers first.answers));
  small = λ h. second.small (first.small h);
}
