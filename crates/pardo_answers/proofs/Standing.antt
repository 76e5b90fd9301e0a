-- The first processor that runs.
use Rattle.std.proofs.Common.{◌≡◌, ◌∙◌, ◌+◌, ◌<◌, ◌-◌, ℕ, zero, suc, Bool, Option, Some, None, ap}
use Rattle.std.proofs.Common.{subst, sym, arith, if◌then◌else◌}
use Rattle.std.proofs.lemmas.Bool.{lt-ltb}
use Rattle.std.specs.Option.{option_or}
use Rattle.pram_job.specs.Job.{JobData}
use Rattle.pram_machine.specs.Machine.{State, counter, halted}
use Rattle.pardo_job.specs.Meaning.{first_below}
use Rattle.pardo_answers.specs.Traces.{running_counter}

later : (f : ℕ → Option ℕ) (n k m v : ℕ) → m ≡ k + n → first_below n f ≡ Some v →
    first_below m f ≡ Some v
later f n zero m v sum found =
    let same : n ≡ m = omega arith in subst (λ (x : ℕ). first_below x f ≡ Some v) same found
later f n (suc k) zero v sum found = absurd (omega arith)
later f n (suc k) (suc m) v sum found =
    ap (λ (o : Option ℕ). option_or o (f m)) (later f n k m v (omega arith) found)

-- none so far, and not this one either
pub none_more : (f : ℕ → Option ℕ) (n m : ℕ) → m ≡ n + 1 → first_below n f ≡ None → f n ≡ None →
    first_below m f ≡ None
none_more f n m next none here =
    let same : suc n ≡ m = omega arith in
    subst (λ (x : ℕ). first_below x f ≡ None) same
    (ap (λ (o : Option ℕ). option_or o (f n)) none ∙ here)

-- none so far, but this one
pub found_here : (f : ℕ → Option ℕ) (n m v : ℕ) → n < m → first_below n f ≡ None → f n ≡ Some v →
    first_below m f ≡ Some v
found_here f n m v within none here =
    later f (suc n) (m - suc n) m v (omega arith)
    (ap (λ (o : Option ℕ). option_or o (f n)) none ∙ here)

-- it runs
pub standing_here : (job : JobData) (state : State) (i at : ℕ) → at ≡ counter job state i →
    at < halted job → running_counter job state i ≡ Some at
standing_here job state i at is low =
    let here : counter job state i < halted job = subst (λ (x : ℕ). x < halted job) is low in
    ap (λ (b : Bool). if b then Some (counter job state i) else None)
    (lt-ltb (counter job state i) (halted job) here) ∙ ap Some (sym is)
