-- A run has one cost.
use Rattle.std.proofs.Common.{◌≡◌, ℕ, ◌+◌, ◌<◌, ◌≤◌, take, Option, Some, None, refl, sym, ap, subst}
use Rattle.std.proofs.Common.{◌∙◌, ap₂, inl, inr, arith}
use Rattle.std.proofs.lemmas.Bool.{cases_lt}
use Rattle.pram_job.specs.Job.{JobData}
use Rattle.pram_step.specs.declared.answer.Fault.{Fault}
use Rattle.pram_step.specs.declared.answer.RunAnswer.TheVariants.{Final, Conflict}
use Rattle.pram_machine.specs.Machine.{counter}
use Rattle.pram_step.specs.Runs.{state_after, IsAnswer, IsFault, IsReached}
use Rattle.pram_step.proofs.LawAnswer.{one_answer}
use Rattle.pram_cost.specs.declared.cost.Cost.{Cost}
use Rattle.pram_cost.specs.declared.meeting.Meeting.{Meeting}
use Rattle.pram_cost.specs.declared.meeting.Sharing.{Sharing}
use Rattle.pram_cost.specs.declared.meeting.Sharing.TheVariants.{SameRead, SameWrite, OtherValue}
use Rattle.pram_cost.specs.declared.work.Work.{Work}
use Rattle.pram_cost.specs.Costs.{IsMost, IsWork, IsCostOf, IsLength, IsCost}
use Rattle.pram_cost.specs.Meetings.{access_by, Meet, NoneMeetIn, IsLeastMeeting}
use Rattle.pram_cost.specs.Meetings.{IsFirstMeeting, IsFirstOrNone}

-- ---- the work

most_within : (job : JobData) (n a b : ℕ) → IsMost job n a → IsMost job n b → a ≤ b
most_within job n a b is other = elim is.attained [
  | inl zero_is ↦ omega arith
  | inr at ↦ (let bound = other.bound at.0 at.1 in omega (arith, at.2))
]

one_work : (job : JobData) (n : ℕ) (a b : Work) → IsWork job n a → IsWork job n b → a ≡ b
one_work job n a b is other =
    let executed : a.executed ≡ b.executed = is.executed_is ∙ sym other.executed_is in
    let le = most_within job n a.most b.most is.most_is other.most_is in
    let ge = most_within job n b.most a.most other.most_is is.most_is in
    let most : a.most ≡ b.most = omega arith in
    let reading : a.reading ≡ b.reading = is.reading_is ∙ sym other.reading_is in
    let writing : a.writing ≡ b.writing = is.writing_is ∙ sym other.writing_is in
    λ i. record { executed = executed i; most = most i; reading = reading i; writing = writing i }

-- ---- the least meeting of a step

module _ (sharing : Sharing) (access : ℕ → Option (ℕ × ℕ)) (n : ℕ) where
  cell_within : (a b : Meeting) → IsLeastMeeting sharing access n a →
      IsLeastMeeting sharing access n b → a.cell ≤ b.cell
  cell_within a b is other = is.least_cell b.cell b.first b.second other.meet

  first_within : (a b : Meeting) → IsLeastMeeting sharing access n a →
      IsLeastMeeting sharing access n b → b.cell ≡ a.cell → a.first ≤ b.first
  first_within a b is other cell = is.least_first b.first other.meet.value other.meet.within
      (subst (λ (c : ℕ). access b.first ≡ Some (c, other.meet.value)) cell other.meet.goes)

  second_within : (a b : Meeting) → IsLeastMeeting sharing access n a →
      IsLeastMeeting sharing access n b → b.cell ≡ a.cell → b.first ≡ a.first →
      a.second ≤ b.second
  second_within a b is other cell first = is.least_second b.second
      (subst (λ (i : ℕ). Meet sharing access n a.cell i b.second) first
      (subst (λ (c : ℕ). Meet sharing access n c b.first b.second) cell other.meet))

  one_least : (a b : Meeting) → a.step ≡ b.step → (a.first ≡ b.first → a.counter ≡ b.counter) →
      IsLeastMeeting sharing access n a → IsLeastMeeting sharing access n b → a ≡ b
  one_least a b step stands is other =
      let le = cell_within a b is other in
      let ge = cell_within b a other is in
      let cell : a.cell ≡ b.cell = omega arith in
      let first_le = first_within a b is other (sym cell) in
      let first_ge = first_within b a other is cell in
      let first : a.first ≡ b.first = omega arith in
      let second_le = second_within a b is other (sym cell) (sym first) in
      let second_ge = second_within b a other is cell first in
      let second : a.second ≡ b.second = omega arith in
      let counter : a.counter ≡ b.counter = stands first in
      λ i. record {
        step = step i;
        cell = cell i;
        first = first i;
        second = second i;
        counter = counter i;
      }

-- ---- the first one of a run

module _ (sharing : Sharing) (job : JobData) (n : ℕ) where
  -- none comes before the other
  not_before : (a b : Meeting) (is : IsFirstMeeting sharing job n a)
      (other : IsFirstMeeting sharing job n b) → is.before < other.before → ⊥
  not_before a b is other less =
      other.none_before is.before less a.cell a.first a.second is.least.meet

  one_first : (a b : Meeting) → IsFirstMeeting sharing job n a → IsFirstMeeting sharing job n b →
      a ≡ b
  one_first a b is other =
      let before : is.before ≡ other.before = elim (cases_lt is.before other.before) [
        | inl less ↦ absurd (not_before a b is other less)
        | inr le ↦ elim (cases_lt other.before is.before) [
          | inl less ↦ absurd (not_before b a other is less)
          | inr ge ↦ omega arith
        ]
      ] in
      let step : a.step ≡ b.step = is.step ∙ ap (λ (t : ℕ). t + 1) before ∙ sym other.step in
      let stands : a.first ≡ b.first → a.counter ≡ b.counter = λ first.
      is.stands ∙ ap₂ (λ (t i : ℕ). counter job (state_after job t) i) before first
      ∙ sym other.stands in
      one_least sharing (access_by sharing job (state_after job other.before)) job.procs a b step
      stands
      (subst (λ (t : ℕ). IsLeastMeeting sharing (access_by sharing job (state_after job t))
      job.procs a) before is.least) other.least

  never : (meeting : Meeting) → ((t : ℕ) → t < n → NoneMeetIn sharing job (state_after job t)) →
      IsFirstMeeting sharing job n meeting → ⊥
  never meeting none is =
      none is.before is.within meeting.cell meeting.first meeting.second is.least.meet

  one_found : (a b : Option Meeting) → IsFirstOrNone sharing job n a →
      IsFirstOrNone sharing job n b → a ≡ b
  one_found None None is other = refl
  one_found None (Some b) is other = absurd (never b is other)
  one_found (Some a) None is other = absurd (never a other is)
  one_found (Some a) (Some b) is other = ap (λ (m : Meeting). Some m) (one_first a b is other)

-- ---- the length of a run

final : (job : JobData) → IsReached job job.steps →
    IsAnswer job (Final (take job.cells (state_after job job.steps)))
final job reached =
    (state_after job job.steps, record { reached = reached; state = refl }, refl)

not_both : (job : JobData) (fault : Fault) → IsReached job job.steps → IsFault job fault → ⊥
not_both job fault reached is =
    let same : Final (take job.cells (state_after job job.steps)) ≡ Conflict fault =
    one_answer job (Final (take job.cells (state_after job job.steps))) (Conflict fault)
    (final job reached) is in
    cc

one_end : (job : JobData) (n m : ℕ) (a b : Option Fault) → IsLength job n a → IsLength job m b →
    (n ≡ m) × (a ≡ b)
one_end job n m None None is other = (is.0 ∙ sym other.0, refl)
one_end job n m None (Some fault) is other = absurd (not_both job fault
    (subst (λ (k : ℕ). IsReached job k) is.0 is.1) other.1)
one_end job n m (Some fault) None is other = absurd (not_both job fault
    (subst (λ (k : ℕ). IsReached job k) other.0 other.1) is.1)
one_end job n m (Some fault) (Some fault') is other =
    let same = one_answer job (Conflict fault) (Conflict fault') is.1 other.1 in
    let e : fault ≡ fault' = cc in
    (is.0 ∙ ap (λ (f : Fault). f.step) e ∙ sym other.0, ap (λ (f : Fault). Some f) e)

pub one_cost : (job : JobData) (a b : Cost) → IsCost job a → IsCost job b → a ≡ b
one_cost job a b is other =
    let end = one_end job a.steps b.steps a.conflict b.conflict is.length_is other.length_is in
    let of_b : IsCostOf job a.steps b =
    subst (λ (n : ℕ). IsCostOf job n b) (sym end.0) other.cost_is in
    let of_a = is.cost_is in
    let steps : a.steps ≡ b.steps = end.0 in
    let procs : a.procs ≡ b.procs = of_a.procs_are ∙ sym of_b.procs_are in
    let work : a.work ≡ b.work = one_work job a.steps a.work b.work of_a.work_is of_b.work_is in
    let first_a = of_a.first_are in
    let first_b = of_b.first_are in
    let read = one_found SameRead job a.steps _ _ first_a.same_read first_b.same_read in
    let write = one_found SameWrite job a.steps _ _ first_a.same_write first_b.same_write in
    let value = one_found OtherValue job a.steps _ _ first_a.other_value first_b.other_value in
    let conflict : a.conflict ≡ b.conflict = end.1 in
    λ i. record {
      steps = steps i;
      procs = procs i;
      work = work i;
      meetings = record { same_read = read i; same_write = write i; other_value = value i };
      conflict = conflict i;
    }
