-- Answers that are played back.
use Rattle.std.proofs.Common.{◌≡◌, add-one, ℕ, zero, suc, ◌+◌, ◌<◌, ◌≤◌, ◌⊎◌, List, [], ◌∷◌, ◌++◌}
use Rattle.std.proofs.Common.{length, slice_index, Ok, sym, ap, subst, ◌∙◌, inl, inr, arith}
use Rattle.std.proofs.Math.Nat.{le-suc_iff}
use Rattle.pram_job.specs.Job.{JobData}
use Rattle.pram_words.specs.Words.{LayoutData}
use Rattle.walkx.specs.declared.operation.Op.{Op}
use Rattle.walkx.specs.Scripts.{Script, asks, ends, rest_after, rest, op_with, heard_in}
use Rattle.walkx.specs.Walk.{Then, AllAdmitted, HearsAdmitted}
use Rattle.walkx.specs.Inner.Heard.{newest}
use Rattle.walkx.specs.declared.playback.Playback.{Playback}
use Rattle.walkx.specs.Driving.{Makes}
use Rattle.walkx.specs.Playing.{stands_back}

tail_admitted : (job : JobData) (y : LayoutData) (xs ys : List (Op × ℕ)) →
    AllAdmitted job y (xs ++ ys) → AllAdmitted job y ys
tail_admitted job y [] ys h = h
tail_admitted job y (x ∷ xs) ys h = tail_admitted job y xs ys h.1

less_or_same : (k n : ℕ) → k < suc n → (k ≡ n) ⊎ (k < n)
less_or_same k n h = elim (le-suc_iff.0 h) [ inl less ↦ inr less | inr same ↦ inl (omega arith) ]

-- each of the answers is admitted where it is given
pub admitted_at : (job : JobData) (y : LayoutData)
    (s : Script Then) (op : Op) (next : ℕ → Script Then) (xs : List ℕ) (k n : ℕ) →
    k < n → AllAdmitted job y (heard_in s (newest n xs)) → rest s (newest k xs) ≡ asks op next →
    HearsAdmitted job y op (slice_index xs k)
admitted_at job y s op next xs k zero less all is = absurd (omega arith)
admitted_at job y s op next xs k (suc n) less all is = elim (less_or_same k n less) [
  | inl same ↦ (let h : AllAdmitted job y
      (op_with (rest s (newest k xs)) (slice_index xs k) ++ heard_in s (newest k xs)) =
      subst (λ (m : ℕ). AllAdmitted job y (heard_in s (newest (suc m) xs))) (sym same) all in
      let g : AllAdmitted job y (op_with (asks op next) (slice_index xs k)
      ++ heard_in s (newest k xs)) = subst (λ (u : Script Then).
      AllAdmitted job y (op_with u (slice_index xs k) ++ heard_in s (newest k xs))) is h in g.0)
  | inr less' ↦ admitted_at job y s op next xs k n less'
      (tail_admitted job y (op_with (rest s (newest n xs)) (slice_index xs n))
      (heard_in s (newest n xs)) all) is
]

pub plays_on : (d : Playback) (op : Op) (answer : ℕ) →
    d.played < length d.heard.now → answer ≡ slice_index d.heard.now d.played →
    Makes stands_back d op (record d { played = d.played + 1 }) (Ok answer)
plays_on d op answer less is = record {
  on = λ at from next here. record {
    same = here.same;
    within = omega arith;
    here = rw add-one (ap (λ (s : Script Then). rest_after s (slice_index d.heard.now d.played))
        here.here ∙ ap next (sym is));
    admitted = here.admitted;
  };
  admitted = λ at n. rw is (admitted_at at.job at.layout n.from.1 op n.next d.heard.now d.played
      (length d.heard.now) less n.here.admitted n.here.here);
}

-- a script that ended stays so
pub ended_stays : (s : Script Then) (then : Then) (xs : List ℕ) (k n : ℕ) → k ≤ n →
    rest s (newest k xs) ≡ ends then → rest s (newest n xs) ≡ ends then
ended_stays s then xs k zero most is =
    let e : k ≡ 0 = omega arith in subst (λ (m : ℕ). rest s (newest m xs) ≡ ends then) e is
ended_stays s then xs k (suc n) most is = elim (cases k n most) [
  | inl same ↦ subst (λ (m : ℕ). rest s (newest m xs) ≡ ends then) same is
  | inr less ↦
      ap (λ (u : Script Then). rest_after u (slice_index xs n)) (ended_stays s then xs k n less is)
]
  where
    cases : (k n : ℕ) → k ≤ suc n → (k ≡ suc n) ⊎ (k ≤ n)
    cases k n h = elim (le-suc_iff.0 h) [ inl less ↦ inr less | inr same ↦ inl same ]
