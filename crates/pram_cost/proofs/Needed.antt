-- The weakest model that accepts the steps of a run, by the first meetings in it.
use Rattle.std.proofs.Common.{◌≡◌, ℕ, ◌<◌, ◌≤◌, true, false, Option, Some, None, arith}
use Rattle.std.specs.Prelude.{is_some}
use Rattle.pram_job.specs.Job.{JobData}
use Rattle.pram_cost.specs.declared.meeting.Meeting.{Meeting}
use Rattle.pram_cost.specs.declared.meeting.Meetings.{Meetings}
use Rattle.pram_cost.specs.declared.meeting.Sharing.{Sharing}
use Rattle.pram_cost.specs.declared.meeting.Sharing.TheVariants.{SameRead, SameWrite, OtherValue}
use Rattle.pram_cost.specs.declared.pram.Pram.{Pram}
use Rattle.pram_cost.specs.declared.pram.Pram.TheVariants.{Erew, Crew, CommonCrcw, PriorityCrcw}
use Rattle.pram_cost.specs.Costs.{AreFirst}
use Rattle.pram_cost.specs.Meetings.{IsFirstOrNone, NoneMeetIn}
use Rattle.pram_cost.specs.Models.{strength, weakest_for, AcceptsSteps, IsWeakestModel}
use Rattle.pram_step.specs.Runs.{state_after}
use Rattle.pram_cost.proofs.LawModels.{priority_accepts}

module _ (job : JobData) (n : ℕ) (sharing : Sharing) where
  -- a meeting rules out the models that are too weak for it
  rules_out : (found : Option Meeting) → is_some found ≡ true →
      IsFirstOrNone sharing job n found → (other : Pram) → AcceptsSteps other job n →
      strength (weakest_for sharing) ≤ strength other
  rules_out None some is other accepts = absurd (cc)
  rules_out (Some meeting) some first other accepts =
      accepts first.before first.within sharing meeting.cell meeting.first meeting.second
      first.least.meet

  none_meet : (found : Option Meeting) → is_some found ≡ false →
      IsFirstOrNone sharing job n found → (t : ℕ) → t < n →
      NoneMeetIn sharing job (state_after job t)
  none_meet None none is = is
  none_meet (Some meeting) none is = absurd (cc)

module _ (job : JobData) (n : ℕ) (meetings : Meetings) (first : AreFirst job n meetings) where
  pub needs_priority : is_some meetings.other_value ≡ true → IsWeakestModel job n PriorityCrcw
  needs_priority values = record {
    accepts = λ t lt. priority_accepts job (state_after job t);
    weakest = rules_out job n OtherValue meetings.other_value values first.other_value;
  }

  module _ (values : is_some meetings.other_value ≡ false) where
    no_values : (t : ℕ) → t < n → NoneMeetIn OtherValue job (state_after job t)
    no_values = none_meet job n OtherValue meetings.other_value values first.other_value

    common_accepts : AcceptsSteps CommonCrcw job n
    common_accepts t lt SameRead cell i j met = omega arith
    common_accepts t lt SameWrite cell i j met = omega arith
    common_accepts t lt OtherValue cell i j met = absurd (no_values t lt cell i j met)

    pub needs_common : is_some meetings.same_write ≡ true → IsWeakestModel job n CommonCrcw
    needs_common writes = record {
      accepts = common_accepts;
      weakest = rules_out job n SameWrite meetings.same_write writes first.same_write;
    }

    module _ (writes : is_some meetings.same_write ≡ false) where
      no_writes : (t : ℕ) → t < n → NoneMeetIn SameWrite job (state_after job t)
      no_writes = none_meet job n SameWrite meetings.same_write writes first.same_write

      crew_accepts : AcceptsSteps Crew job n
      crew_accepts t lt SameRead cell i j met = omega arith
      crew_accepts t lt SameWrite cell i j met = absurd (no_writes t lt cell i j met)
      crew_accepts t lt OtherValue cell i j met = absurd (no_values t lt cell i j met)

      pub needs_crew : is_some meetings.same_read ≡ true → IsWeakestModel job n Crew
      needs_crew reads = record {
        accepts = crew_accepts;
        weakest = rules_out job n SameRead meetings.same_read reads first.same_read;
      }

      erew_accepts : is_some meetings.same_read ≡ false → AcceptsSteps Erew job n
      erew_accepts reads t lt SameRead cell i j met = absurd
          (none_meet job n SameRead meetings.same_read reads first.same_read t lt cell i j met)
      erew_accepts reads t lt SameWrite cell i j met = absurd (no_writes t lt cell i j met)
      erew_accepts reads t lt OtherValue cell i j met = absurd (no_values t lt cell i j met)

      pub needs_erew : is_some meetings.same_read ≡ false → IsWeakestModel job n Erew
      needs_erew reads =
          record { accepts = erew_accepts reads; weakest = λ other accepts. omega arith }
