-- What became of processors, put together.
use Rattle.std.proofs.Common.{◌≡◌, ℕ, ◌-◌, ◌≤◌, Option, Some, None, refl, subst, arith}
use Rattle.pram_job.specs.Job.{JobData}
use Rattle.pram_step.specs.declared.answer.Fault.{Fault}
use Rattle.pram_step.specs.Runs.{AgreesAfter, IsFirstConflict, IsReached}
use Rattle.pram_rows.specs.declared.fates.End.{End}
use Rattle.pram_rows.specs.declared.fates.Lost.{Lost}
use Rattle.pram_rows.specs.Fates.{AreFates, IsEnd, IsFirstLostOrNone}

-- where all steps are made
pub fates_reached : (job : JobData) (n : ℕ) (end : End) (lost : Option Lost) → IsReached job n →
    IsEnd job n end → IsFirstLostOrNone job n lost →
    AreFates job n (record { end = Some end; lost = lost })
fates_reached job n end lost reached is_end is_lost = record {
  made = n;
  are_made = record { most = omega arith; reached = reached; against = λ lt. absurd (omega arith) };
  end_is = (refl, is_end);
  lost_is = is_lost;
}

-- where one is against the rule
pub fates_disputed : (job : JobData) (n made : ℕ) (fault : Fault) (lost : Option Lost) →
    IsFirstConflict job fault → fault.step ≤ n → made ≡ fault.step - 1 →
    IsFirstLostOrNone job made lost → AreFates job n (record { end = None; lost = lost })
fates_disputed job n made fault lost conflict within is is_lost =
    let step = conflict.step in
    let e : conflict.before ≡ made = omega arith in
    record {
      made = made;
      are_made = record {
        most = omega arith;
        reached = subst (λ (t : ℕ). IsReached job t) e conflict.reached;
        against = λ _. subst (λ (t : ℕ). AgreesAfter job t → ⊥) e
            (λ agrees. agrees _ _ _ conflict.dispute.clash);
      };
      end_is = omega arith;
      lost_is = is_lost;
    }
