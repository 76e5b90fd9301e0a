-- So many steps make one thing of the processors.
use Rattle.std.proofs.Common.{◌≡◌, ℕ, ◌+◌, ◌-◌, ◌<◌, ◌≤◌, Option, Some, None, refl, sym, ap, subst}
use Rattle.std.proofs.Common.{◌∙◌, inl, inr, arith}
use Rattle.std.specs.Prelude.{MatchOption}
use Rattle.std.proofs.lemmas.Bool.{cases_lt}
use Rattle.pram_job.specs.Job.{JobData}
use Rattle.pram_machine.specs.Machine.{State, AllStopped, counter}
use Rattle.pram_step.specs.Running.{IsStop}
use Rattle.pram_step.specs.Runs.{IsReached, state_after}
use Rattle.pram_step.proofs.LawFixed.{reached_down}
use Rattle.pram_step.proofs.LawStopped.{stopped_later}
use Rattle.pram_rows.specs.declared.fates.End.{End}
use Rattle.pram_rows.specs.declared.fates.End.TheVariants.{Running, Stopped}
use Rattle.pram_rows.specs.declared.fates.Lost.{Lost}
use Rattle.pram_rows.specs.Fates.{AreMade, SomeRun, IsEnd, IsFirstLost}
use Rattle.pram_rows.specs.Fates.{IsFirstLostOrNone, IsFirstNaming, IsFirstRunning}
use Rattle.pram_rows.specs.FateLaws.{OneFates}

made_within : (job : JobData) (n a b : ℕ) → AreMade job n a → AreMade job n b → b ≤ a
made_within job n a b is other = elim (cases_lt a b) [
  | inl less ↦ absurd (is.against (let most = other.most in omega arith) (other.reached a less))
  | inr more ↦ more
]

one_made : (job : JobData) (n a b : ℕ) → AreMade job n a → AreMade job n b → a ≡ b
one_made job n a b is other =
    let le = made_within job n a b is other in
    let ge = made_within job n b a other is in
    omega arith

-- ---- how they are at the end

first_within : (job : JobData) (s : State) (i j : ℕ) → IsFirstRunning job s i →
    IsFirstRunning job s j → j ≤ i
first_within job s i j is other = elim (cases_lt i j) [
  | inl less ↦ absurd (let stopped = other.least i less in let runs = is.runs in omega arith)
  | inr more ↦ more
]

one_running : (job : JobData) (s : State) (c d i j x y : ℕ) → SomeRun job s c i x →
    SomeRun job s d j y → Running c i x ≡ Running d j y
one_running job s c d i j x y is other =
    let le = first_within job s i j is.first_is other.first_is in
    let ge = first_within job s j i other.first_is is.first_is in
    let first : i ≡ j = omega arith in
    let count : c ≡ d = is.count_is ∙ sym other.count_is in
    let index : x ≡ y = is.index_is ∙ ap (counter job s) first ∙ sym other.index_is in
    λ k. Running (count k) (first k) (index k)

stop_within : (job : JobData) (a b : ℕ) → IsStop job a → IsStop job b → b ≤ a
stop_within job a b is other = elim (cases_lt a b) [
  | inl less ↦ absurd (other.runs a less is.stopped)
  | inr more ↦ more
]

one_stop : (job : JobData) (a b : ℕ) → IsStop job a → IsStop job b → Stopped a ≡ Stopped b
one_stop job a b is other =
    let le = stop_within job a b is other in
    let ge = stop_within job b a other is in
    let same : a ≡ b = omega arith in
    ap (λ (step : ℕ). Stopped step) same

-- who has stopped does not run later
never_both : (job : JobData) (n c i x step : ℕ) → IsReached job n →
    SomeRun job (state_after job n) c i x → step ≤ n → IsStop job step → ⊥
never_both job n c i x step reached runs within stop =
    let later = stopped_later job step (n - step) (state_after job step)
    (record { reached = reached_down job step n within reached; state = refl }) stop.stopped in
    let e : step + (n - step) ≡ n = omega arith in
    let same : state_after job step ≡ state_after job n = later.state ∙ ap (state_after job) e in
    let stopped = subst (λ (s : State). AllStopped job s) same stop.stopped i runs.first_is.within in
    let running = runs.first_is.runs in
    omega arith

one_end : (job : JobData) (n : ℕ) → IsReached job n → (end other : End) → IsEnd job n end →
    IsEnd job n other → end ≡ other
one_end job n reached (Running c i x) (Running d j y) is of_other =
    one_running job (state_after job n) c d i j x y is of_other
one_end job n reached (Running c i x) (Stopped b) is of_other =
    absurd (never_both job n c i x b reached is of_other.0 of_other.1)
one_end job n reached (Stopped a) (Running d j y) is of_other =
    absurd (never_both job n d j y a reached of_other is.0 is.1)
one_end job n reached (Stopped a) (Stopped b) is of_other = one_stop job a b is.1 of_other.1

-- the end, if all steps are made
abbrev IsEndIf : JobData → ℕ → ℕ → Option End → Type 0
IsEndIf job n made end = MatchOption end (made < n) (λ e. (made ≡ n) × IsEnd job n e)

one_end_if : (job : JobData) (n made : ℕ) → IsReached job made → (end other : Option End) →
    IsEndIf job n made end → IsEndIf job n made other → end ≡ other
one_end_if job n made reached None None is of_other = refl
one_end_if job n made reached None (Some b) is of_other =
    absurd (let all = of_other.0 in omega arith)
one_end_if job n made reached (Some a) None is of_other = absurd (let all = is.0 in omega arith)
one_end_if job n made reached (Some a) (Some b) is of_other =
    ap (λ (e : End). Some e)
    (one_end job n (subst (λ (t : ℕ). IsReached job t) is.0 reached) a b is.1 of_other.1)

-- ---- who was lost first

before_within : (job : JobData) (n : ℕ) (a b : Lost) → (is : IsFirstLost job n a) →
    (of_other : IsFirstLost job n b) → of_other.before ≤ is.before
before_within job n a b is of_other = elim (cases_lt is.before of_other.before) [
  | inl less ↦ absurd (of_other.none_before is.before less a.processor is.first_is.names_none)
  | inr more ↦ more
]

one_lost : (job : JobData) (n : ℕ) (a b : Lost) → IsFirstLost job n a → IsFirstLost job n b → a ≡ b
one_lost job n a b is of_other =
    let le = before_within job n a b is of_other in
    let ge = before_within job n b a of_other is in
    let same : of_other.before ≡ is.before = omega arith in
    let first = subst (λ (t : ℕ). IsFirstNaming job (state_after job t) b.processor) same
    of_other.first_is in
    let low = is.first_is.least b.processor first.names_none in
    let high = first.least a.processor is.first_is.names_none in
    let processor : a.processor ≡ b.processor = omega arith in
    let of_step = is.step_is in
    let of_step_too = of_other.step_is in
    let step : a.step ≡ b.step = omega arith in
    let index : a.index ≡ b.index = is.index_is
    ∙ ap (counter job (state_after job is.before)) processor
    ∙ ap (λ (t : ℕ). counter job (state_after job t) b.processor) (sym same)
    ∙ sym of_other.index_is in
    λ k. record { step = step k; processor = processor k; index = index k }

one_lost_or_none : (job : JobData) (n : ℕ) (a b : Option Lost) → IsFirstLostOrNone job n a →
    IsFirstLostOrNone job n b → a ≡ b
one_lost_or_none job n None None is of_other = refl
one_lost_or_none job n None (Some b) is of_other = absurd (is of_other.before of_other.within
    b.processor of_other.first_is.names_none)
one_lost_or_none job n (Some a) None is of_other = absurd (of_other is.before is.within a.processor
    is.first_is.names_none)
one_lost_or_none job n (Some a) (Some b) is of_other =
    ap (λ (l : Lost). Some l) (one_lost job n a b is of_other)

-- ---- both

pub one_fates : OneFates
one_fates job n fates other is of_other =
    let made : of_other.made ≡ is.made =
    one_made job n of_other.made is.made of_other.are_made is.are_made in
    let end : fates.end ≡ other.end = one_end_if job n is.made is.are_made.reached fates.end other.end
    is.end_is (subst (λ (m : ℕ). IsEndIf job n m other.end) made of_other.end_is) in
    let lost : fates.lost ≡ other.lost = one_lost_or_none job is.made fates.lost other.lost is.lost_is
    (subst (λ (m : ℕ). IsFirstLostOrNone job m other.lost) made of_other.lost_is) in
    λ k. record { end = end k; lost = lost k }
