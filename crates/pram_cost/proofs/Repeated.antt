-- Steps that begin in one state.
use Rattle.std.proofs.Common.{◌≡◌, ℕ, zero, suc, ◌+◌, ◌-◌, ◌*◌, ◌<◌, ◌≤◌, Bool, true, false, cond}
use Rattle.std.proofs.Common.{◌⊎◌, Option, Some, None, refl, sym, ap, subst, ◌∙◌, inl, inr, arith}
use Rattle.std.specs.Prelude.{sum_by, max, IfSome}
use Rattle.std.proofs.lemmas.Bool.{cases_lt}
use Rattle.std.proofs.lemmas.List.FromFn.{sum_by-map-range_with_len_more}
use Rattle.std.proofs.lemmas.Option.{none-some, same_Some, some_pair_parts}
use Rattle.std.proofs.Math.Nat.{le-max_left, le-max_right, max-eq_left, max-eq_right}
use Rattle.pram_job.specs.Job.{JobData}
use Rattle.pram_cost.specs.declared.meeting.Meeting.{Meeting}
use Rattle.pram_cost.specs.declared.meeting.Sharing.{Sharing}
use Rattle.pram_cost.specs.declared.meeting.Sharing.TheVariants.{SameRead, SameWrite, OtherValue}
use Rattle.pram_cost.specs.declared.work.Work.{Work}
use Rattle.pram_cost.specs.Accesses.{write_by}
use Rattle.pram_cost.specs.Costs.{at_work, has_access, executed, steps_with, first_states}
use Rattle.pram_cost.specs.Costs.{IsMost, IsWork}
use Rattle.pram_step.specs.Running.{Repeats}
use Rattle.pram_cost.specs.Inner.Seen.{IsOfStep}
use Rattle.pram_machine.specs.Machine.{State, counter}
use Rattle.pram_cost.specs.Meetings.{access_by, NoneMeetIn, IsLeastOrNone}
use Rattle.pram_cost.specs.Meetings.{IsFirstMeeting, IsFirstOrNone}
use Rattle.pram_step.specs.Runs.{state_after}

module _ (job : JobData) (n : ℕ) (s : State) where
  -- a step between n and n + k begins in the state
  at_step : (k t : ℕ) → Repeats job n k s → n ≤ t → t < n + k → state_after job t ≡ s
  at_step k t same from below =
      let e : n + (t - n) ≡ t = omega arith in
      subst (λ (m : ℕ). state_after job m ≡ s) e (same (t - n) (omega arith))

  -- ---- sums

  pub sum_more : (f : State → ℕ) (k : ℕ) → Repeats job n k s →
      sum_by f (first_states job (n + k)) ≡ sum_by f (first_states job n) + k * f s
  sum_more f zero same =
      let e : n + 0 ≡ n = omega arith in
      omega (arith, ap (λ (m : ℕ). sum_by f (first_states job m)) e)
  sum_more f (suc k) same =
      let before = sum_more f k (λ j lt. same j (omega arith)) in
      let e : n + suc k ≡ n + k + 1 = omega arith in
      let zero_plus : 0 + (n + k) ≡ n + k = omega arith in
      let last : sum_by f (first_states job (n + k + 1))
      ≡ sum_by f (first_states job (n + k)) + f (state_after job (n + k)) =
      sum_by-map-range_with_len_more f (state_after job) 0 (n + k) (n + k) zero_plus in
      let here : f (state_after job (n + k)) ≡ f s = ap f (same k (omega arith)) in
      let whole = ap (λ (m : ℕ). sum_by f (first_states job m)) e in
      let product : suc k * f s ≡ k * f s + f s = omega arith in
      omega (arith, before, last, here, whole, product)

  pub executed_more : (k : ℕ) → Repeats job n k s →
      executed job (n + k) ≡ executed job n + k * at_work job s
  executed_more = sum_more (at_work job)

  pub steps_with_more : (sharing : Sharing) (k : ℕ) → Repeats job n k s →
      steps_with sharing job (n + k)
      ≡ steps_with sharing job n + cond (has_access sharing job s) k 0
  steps_with_more sharing k same =
      sum_more (λ (r : State). cond (has_access sharing job r) 1 0) k same
      ∙ ap (λ (m : ℕ). steps_with sharing job n + m) (by_test (has_access sharing job s))
    where
      by_test : (b : Bool) → k * cond b 1 0 ≡ cond b k 0
      by_test true = omega arith
      by_test false = omega arith

  -- ---- the most

  pub most_more : (k most most' : ℕ) → 0 < k → Repeats job n k s → IsMost job n most →
      most ≤ most' → at_work job s ≤ most' → (most' ≡ most) ⊎ (most' ≡ at_work job s) →
      IsMost job (n + k) most'
  most_more k most most' some same is old new which = record {
    bound = λ t below. elim (cases_lt t n) [
      | inl early ↦ (let le = is.bound t early in omega arith)
      | inr late ↦ omega (arith, ap (at_work job) (at_step k t same late below))
    ];
    attained = elim which [
      | inl stays ↦ elim is.attained [
        | inl zero_is ↦ inl (stays ∙ zero_is)
        | inr at ↦
            let lt = at.1 in
            inr (at.0, (let goal : at.0 < n + k = omega arith in goal), at.2 ∙ sym stays)
      ]
      | inr grows ↦
          let e : n + 0 ≡ n = omega arith in
          let here = subst (λ (m : ℕ). state_after job m ≡ s) e (same 0 some) in
          inr (n, (let goal : n < n + k = omega arith in goal), ap (at_work job) here ∙ sym grows)
    ];
  }

  -- ---- the work

  pub work_more : (k : ℕ) (work more : Work) → IsWork job n work → 0 < k → Repeats job n k s →
      more.executed ≡ work.executed + k * at_work job s →
      more.most ≡ max work.most (at_work job s) →
      more.reading ≡ work.reading + cond (has_access SameRead job s) k 0 →
      more.writing ≡ work.writing + cond (has_access SameWrite job s) k 0 → IsWork job (n + k) more
  work_more k work more is some same executed most reading writing = record {
    executed_is = executed ∙ ap (λ (m : ℕ). m + k * at_work job s) is.executed_is
        ∙ sym (executed_more k same);
    most_is = most_more k work.most more.most some same is.most_is
        (rw most (le-max_left work.most (at_work job s)))
        (rw most (le-max_right work.most (at_work job s)))
        (rw most (max_is work.most (at_work job s)));
    reading_is = reading
        ∙ ap (λ (m : ℕ). m + cond (has_access SameRead job s) k 0) is.reading_is
        ∙ sym (steps_with_more SameRead k same);
    writing_is = writing
        ∙ ap (λ (m : ℕ). m + cond (has_access SameWrite job s) k 0) is.writing_is
        ∙ sym (steps_with_more SameWrite k same);
  }
    where
      max_is : (a b : ℕ) → (max a b ≡ a) ⊎ (max a b ≡ b)
      max_is a b = elim (cases_lt a b) [
        | inl less ↦ inr (max-eq_right (omega arith))
        | inr more ↦ inl (max-eq_left more)
      ]

  -- ---- the first meeting

  -- in one step more
  pub first_more : (sharing : Sharing) (found : Option Meeting) → s ≡ state_after job n →
      ((t : ℕ) → t < n → NoneMeetIn sharing job (state_after job t)) →
      IsLeastOrNone sharing (access_by sharing job s) job.procs found →
      ((meeting : Meeting) → found ≡ Some meeting → IsOfStep job s (n + 1) meeting) →
      IsFirstOrNone sharing job (n + 1) found
  first_more sharing None is none least of_step = λ t below. elim (cases_lt t n) [
    | inl early ↦ none t early
    | inr late ↦
        let e : n ≡ t = omega arith in
        subst (λ (r : State). NoneMeetIn sharing job r) (is ∙ ap (state_after job) e) least
  ]
  first_more sharing (Some meeting) is none least of_step = record {
    before = n;
    within = omega arith;
    step = (of_step meeting refl).0;
    none_before = none;
    least = subst (λ (r : State). IsLeastOrNone sharing (access_by sharing job r) job.procs
        (Some meeting)) is least;
    stands = subst (λ (r : State). meeting.counter ≡ counter job r meeting.first) is
        (of_step meeting refl).1;
  }

  -- a meeting stays the first
  pub first_stays : (sharing : Sharing) (more : ℕ) (meeting : Meeting) → n ≤ more →
      IsFirstMeeting sharing job n meeting → IsFirstMeeting sharing job more meeting
  first_stays sharing more meeting le first =
      let lt = first.within in
      record {
        before = first.before;
        within = omega arith;
        step = first.step;
        none_before = first.none_before;
        least = first.least;
        stands = first.stands;
      }

-- what holds of a meeting that was found
pub of_found : (found : Option Meeting) (Is : Meeting → Type 0) → IfSome found Is →
    (meeting : Meeting) → found ≡ Some meeting → Is meeting
of_found None Is is meeting e = absurd (none-some meeting e)
of_found (Some found) Is is meeting e = subst Is (same_Some found meeting e) is

pub first_found_stays : (job : JobData) (n : ℕ) (sharing : Sharing) (found : Option Meeting)
    (meeting : Meeting) → found ≡ Some meeting → IsFirstOrNone sharing job n found →
    IsFirstOrNone sharing job (n + 1) found
first_found_stays job n sharing None meeting e first = absurd (none-some meeting e)
first_found_stays job n sharing (Some found) meeting e first =
    first_stays job n (state_after job n) sharing (n + 1) found (omega arith) first

-- in equal steps none meet where none meet in the first
pub first_repeats : (job : JobData) (n : ℕ) (s : State) (sharing : Sharing) (k : ℕ)
    (found : Option Meeting) → 0 < k → Repeats job n k s →
    IsFirstOrNone sharing job (n + 1) found → IsFirstOrNone sharing job (n + k) found
first_repeats job n s sharing k None some same none = λ t below. elim (cases_lt t (n + 1)) [
  | inl early ↦ none t early
  | inr late ↦
      let here = at_step job n s k t same (omega arith) below in
      let first = at_step job n s k n same (omega arith) (omega arith) in
      subst (λ (r : State). NoneMeetIn sharing job r) (first ∙ sym here) (none n (omega arith))
]
first_repeats job n s sharing k (Some meeting) some same first =
    first_stays job (n + 1) s sharing (n + k) meeting (omega arith) first

-- where no two write to one cell, none write different values there
pub none_differ : (job : JobData) (n : ℕ) → IsFirstOrNone SameWrite job n None →
    IsFirstOrNone OtherValue job n None
none_differ job n none t below cell i j met = none t below cell i j (record {
  value = met.value;
  other = met.other;
  within = met.within;
  within_too = met.within_too;
  goes = met.goes;
  goes_too = met.goes_too;
  differ = λ same.
      let at_j = subst (λ k. write_by job (state_after job t) k ≡ Some (cell, met.value)) same
      met.goes in
      met.differ (some_pair_parts cell cell met.value met.other (sym at_j ∙ met.goes_too)).1;
})
