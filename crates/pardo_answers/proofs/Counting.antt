-- How many of the numbers of a range pass a test.
use Rattle.std.proofs.Common.{◌≡◌, ◌∙◌, ◌+◌, ◌-◌, ◌<◌, ◌≤◌, ℕ, zero, suc, Bool, true, false, cond}
use Rattle.std.proofs.Common.{ap, sym, arith, refl}
use Rattle.std.specs.Prelude.{count_by}
use Rattle.std.specs.List.{range_with_len}
use Rattle.std.proofs.lemmas.List.Sums.{sum_by-cons}
use Rattle.std.specs.Int.{from_bool}

count_first : (p : ℕ → Bool) (a n : ℕ) → 0 < n → count_by p (range_with_len a n)
    ≡ cond (p a) 1 0 + count_by p (range_with_len (a + 1) (n - 1))
count_first p a zero some = absurd (omega arith)
count_first p a (suc n) some =
    let e : n ≡ suc n - 1 = omega arith in
    sum_by-cons (λ x. cond (p x) 1 0) a (range_with_len (a + 1) n)
    ∙ ap (λ (m : ℕ). cond (p a) 1 0 + count_by p (range_with_len (a + 1) m)) e

-- those so far, one more, and those to come
pub count_more : (p : ℕ → Bool) (so_far one now whole a n next less : ℕ) → a + 1 ≡ next →
    n ≡ less + 1 → one ≡ cond (p a) 1 0 → now ≡ so_far + one →
    so_far + count_by p (range_with_len a n) ≡ whole →
    now + count_by p (range_with_len next less) ≡ whole
count_more p so_far one now whole a n next less after fewer is is_now all =
    let less_is : n - 1 ≡ less = omega arith in
    let first : count_by p (range_with_len a n)
    ≡ one + count_by p (range_with_len next less) =
    count_first p a n (omega arith)
    ∙ ap (λ (m : ℕ). cond (p a) 1 0 + count_by p (range_with_len m (n - 1))) after
    ∙ ap (λ (m : ℕ). cond (p a) 1 0 + count_by p (range_with_len next m)) less_is
    ∙ ap (λ (m : ℕ). m + count_by p (range_with_len next less)) (sym is) in
    omega (arith, first, is_now, all)

pub as_one : (b : Bool) → from_bool b ≡ cond b 1 0
as_one true = refl
as_one false = refl

pub one_at_most : (b : Bool) → cond b 1 0 ≤ 1
one_at_most true = omega arith
one_at_most false = omega arith
