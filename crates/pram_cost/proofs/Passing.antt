-- The first meeting that a model does not accept.
use Rattle.std.proofs.Common.{◌≡◌, ◌∙◌, ℕ, ◌<◌, ◌≤◌, Bool, true, false, Option, Some, None}
use Rattle.std.proofs.Common.{MatchOption, arith, refl, subst, sym}
use Rattle.std.specs.Prelude.{if◌then◌else◌, nat_lt}
use Rattle.std.proofs.lemmas.Option.{some_pair_parts}
use Rattle.std.proofs.lemmas.Bool.{ltb-true, ltb-false}
use Rattle.pram_job.specs.Job.{JobData}
use Rattle.pram_cost.specs.declared.beyond.Beyond.{Beyond}
use Rattle.pram_cost.specs.declared.meeting.Meeting.{Meeting}
use Rattle.pram_cost.specs.declared.meeting.Meetings.{Meetings}
use Rattle.pram_cost.specs.declared.meeting.Sharing.{Sharing}
use Rattle.pram_cost.specs.declared.meeting.Sharing.TheVariants.{SameRead, SameWrite, OtherValue}
use Rattle.pram_cost.specs.declared.pram.Pram.{Pram}
use Rattle.pram_cost.specs.declared.pram.Pram.TheVariants.{Erew, Crew, CommonCrcw, PriorityCrcw}
use Rattle.pram_cost.specs.Accesses.{write_by}
use Rattle.pram_cost.specs.Beyond.{IsBeyond}
use Rattle.pram_cost.specs.Costs.{AreFirst}
use Rattle.pram_cost.specs.Inner.Firsts.{sooner_of, so}
use Rattle.pram_cost.specs.Meetings.{IsFirstMeeting, IsFirstOrNone, MeetIn, NoneMeetIn}
use Rattle.pram_cost.specs.Models.{strength, weakest_for, Accepts, AcceptsSteps}
use Rattle.pram_machine.specs.Machine.{State}
use Rattle.pram_step.specs.Runs.{state_after}
use Rattle.pram_cost.proofs.LawModels.{priority_accepts}

-- ---- in one step

module _ (job : JobData) (s : State) where
  -- who write different values to a cell write to one cell
  both_write : (cell i j : ℕ) → MeetIn OtherValue job s cell i j → MeetIn SameWrite job s cell i j
  both_write cell i j met = record {
    value = met.value;
    other = met.other;
    within = met.within;
    within_too = met.within_too;
    goes = met.goes;
    goes_too = met.goes_too;
    differ = λ e. met.differ (some_pair_parts cell cell met.value met.other
        (sym met.goes ∙ subst (λ (k : ℕ). write_by job s k ≡ Some (cell, met.other)) (sym e)
        met.goes_too)).1;
  }

  common_accepts : NoneMeetIn OtherValue job s → Accepts CommonCrcw job s
  common_accepts none SameRead cell i j met = omega arith
  common_accepts none SameWrite cell i j met = omega arith
  common_accepts none OtherValue cell i j met = absurd (none cell i j met)

  crew_accepts : NoneMeetIn SameWrite job s → Accepts Crew job s
  crew_accepts none SameRead cell i j met = omega arith
  crew_accepts none SameWrite cell i j met = absurd (none cell i j met)
  crew_accepts none OtherValue cell i j met = absurd (none cell i j (both_write cell i j met))

  erew_accepts : NoneMeetIn SameRead job s → NoneMeetIn SameWrite job s → Accepts Erew job s
  erew_accepts reads writes SameRead cell i j met = absurd (reads cell i j met)
  erew_accepts reads writes SameWrite cell i j met = absurd (writes cell i j met)
  erew_accepts reads writes OtherValue cell i j met =
      absurd (writes cell i j (both_write cell i j met))

  -- of the ways that a model does not accept, the weakest that there is
  abbrev IsWeakestWay : Pram → Sharing → Type 0
  IsWeakestWay pram way = (sharing : Sharing) (cell i j : ℕ) → MeetIn sharing job s cell i j →
      strength pram < strength (weakest_for sharing) →
      strength (weakest_for way) ≤ strength (weakest_for sharing)

  weakest_read : IsWeakestWay Erew SameRead
  weakest_read SameRead cell i j met refused = omega arith
  weakest_read SameWrite cell i j met refused = omega arith
  weakest_read OtherValue cell i j met refused = omega arith

  weakest_write : NoneMeetIn SameRead job s → IsWeakestWay Erew SameWrite
  weakest_write none SameRead cell i j met refused = absurd (none cell i j met)
  weakest_write none SameWrite cell i j met refused = omega arith
  weakest_write none OtherValue cell i j met refused = omega arith

  crew_write : IsWeakestWay Crew SameWrite
  crew_write SameRead cell i j met refused = absurd (omega arith)
  crew_write SameWrite cell i j met refused = omega arith
  crew_write OtherValue cell i j met refused = omega arith

  common_value : IsWeakestWay CommonCrcw OtherValue
  common_value SameRead cell i j met refused = absurd (omega arith)
  common_value SameWrite cell i j met refused = absurd (omega arith)
  common_value OtherValue cell i j met refused = omega arith

-- ---- in the steps of a job

module _ (job : JobData) (n : ℕ) where
  -- what is found of a model
  abbrev Finds : Pram → Option Beyond → Type 0
  Finds pram found = MatchOption found (AcceptsSteps pram job n) (IsBeyond pram job n)

  -- a first meeting of a kind that the model does not accept, before which it accepts all
  beyond_at : (pram : Pram) (sharing : Sharing) (meeting : Meeting)
      (first : IsFirstMeeting sharing job n meeting) →
      AcceptsSteps pram job first.before → strength pram < strength (weakest_for sharing) →
      IsWeakestWay job (state_after job first.before) pram sharing →
      IsBeyond pram job n (record { sharing = sharing; meeting = meeting })
  beyond_at pram sharing meeting first accepts refused weakest = record {
    first = first;
    accepts_before = accepts;
    refused = refused;
    weakest = weakest;
  }

  finds_crew : (write : Option Meeting) → IsFirstOrNone SameWrite job n write →
      Finds Crew (so SameWrite write)
  finds_crew None none = λ t lt. crew_accepts job (state_after job t) (none t lt)
  finds_crew (Some write) first = beyond_at Crew SameWrite write first
      (λ t lt. crew_accepts job (state_after job t) (first.none_before t lt)) (omega arith)
      (crew_write job (state_after job first.before))

  finds_common : (value : Option Meeting) → IsFirstOrNone OtherValue job n value →
      Finds CommonCrcw (so OtherValue value)
  finds_common None none = λ t lt. common_accepts job (state_after job t) (none t lt)
  finds_common (Some value) first = beyond_at CommonCrcw OtherValue value first
      (λ t lt. common_accepts job (state_after job t) (first.none_before t lt)) (omega arith)
      (common_value job (state_after job first.before))

  module _ (read : Meeting) (write : Meeting) (reads : IsFirstMeeting SameRead job n read)
      (writes : IsFirstMeeting SameWrite job n write) where
    earlier : (b : Bool) → nat_lt write.step read.step ≡ b →
        Finds Erew (if b then so SameWrite (Some write) else so SameRead (Some read))
    earlier true is =
        let less : write.step < read.step = ltb-true _ _ is in
        let before : writes.before < reads.before = omega (arith, writes.step, reads.step) in
        beyond_at Erew SameWrite write writes
        (λ t lt. erew_accepts job (state_after job t) (reads.none_before t (omega arith))
        (writes.none_before t lt)) (omega arith)
        (weakest_write job (state_after job writes.before)
        (reads.none_before writes.before before))
    earlier false is =
        let most : read.step ≤ write.step = ltb-false _ _ is in
        let before : reads.before ≤ writes.before = omega (arith, writes.step, reads.step) in
        beyond_at Erew SameRead read reads
        (λ t lt. erew_accepts job (state_after job t) (reads.none_before t lt)
        (writes.none_before t (omega arith))) (omega arith)
        (weakest_read job (state_after job reads.before))

  finds_erew : (read write : Option Meeting) → IsFirstOrNone SameRead job n read →
      IsFirstOrNone SameWrite job n write → Finds Erew (sooner_of read write)
  finds_erew None None no_reads no_writes =
      λ t lt. erew_accepts job (state_after job t) (no_reads t lt) (no_writes t lt)
  finds_erew None (Some write) none first = beyond_at Erew SameWrite write first
      (λ t lt. erew_accepts job (state_after job t)
      (none t (let within = first.within in omega arith)) (first.none_before t lt)) (omega arith)
      (weakest_write job (state_after job first.before) (none first.before first.within))
  finds_erew (Some read) None first none = beyond_at Erew SameRead read first
      (λ t lt. erew_accepts job (state_after job t) (first.none_before t lt)
      (none t (let within = first.within in omega arith))) (omega arith)
      (weakest_read job (state_after job first.before))
  finds_erew (Some read) (Some write) reads writes = earlier read write reads writes
      (nat_lt write.step read.step) refl

  pub finds_priority : AcceptsSteps PriorityCrcw job n
  finds_priority t lt = priority_accepts job (state_after job t)

  module _ (meetings : Meetings) (first : AreFirst job n meetings) where
    pub beyond_erew : (found : Option Beyond) →
        found ≡ sooner_of meetings.same_read meetings.same_write → Finds Erew found
    beyond_erew found is = subst (λ (f : Option Beyond). Finds Erew f) (sym is)
        (finds_erew meetings.same_read meetings.same_write first.same_read first.same_write)

    pub beyond_crew : (found : Option Beyond) → found ≡ so SameWrite meetings.same_write →
        Finds Crew found
    beyond_crew found is = subst (λ (f : Option Beyond). Finds Crew f) (sym is)
        (finds_crew meetings.same_write first.same_write)

    pub beyond_common : (found : Option Beyond) → found ≡ so OtherValue meetings.other_value →
        Finds CommonCrcw found
    beyond_common found is = subst (λ (f : Option Beyond). Finds CommonCrcw f) (sym is)
        (finds_common meetings.other_value first.other_value)
