-- Who is gone in a line stays gone, so the lines tell who is there at the end.
use Rattle.std.proofs.Common.{◌≡◌, ◌∙◌, ◌+◌, ◌-◌, ◌<◌, ℕ, Option, Some, None}
use Rattle.std.proofs.Common.{arith, refl, subst}
use Rattle.pram_job.specs.Job.{IsJob, JobData}
use Rattle.pram_machine.specs.Machine.{IsStopped, counter, out_of_range}
use Rattle.pram_step.specs.Runs.{state_after}
use Rattle.pram_step.proofs.LawCounters.{stopped_processor}
use Rattle.pardo_job.specs.Ends.{AreGone}
use Rattle.pardo_job.specs.Leaving.{GoneIn, Leaves}
use Rattle.exercise_judge.specs.Trials.{NoneGone}

module _ (job : JobData) (line_of : ℕ → ℕ) (is_job : IsJob job) where
  -- who left in one of the first n steps is gone after them
  pub left_is_gone : (n i number : ℕ) → i < job.procs → Leaves job line_of n i number →
      counter job (state_after job n) i ≡ out_of_range job
  left_is_gone n i number low leaves =
      let within = leaves.within in
      let t : ℕ = leaves.before + 1 in
      let out : counter job (state_after job t) i ≡ out_of_range job = leaves.is_gone in
      let past : IsStopped job (state_after job t) i = omega (arith, out) in
      let e : t + (n - t) ≡ n = omega (arith, within) in
      subst (λ (m : ℕ). counter job (state_after job m) i ≡ out_of_range job) e
      ((stopped_processor job t (n - t) i is_job low past).0 ∙ out)

  none_left : (i : ℕ) (line : Option ℕ) → i < job.procs → GoneIn job line_of job.steps i line →
      (counter job (state_after job job.steps) i ≡ out_of_range job → ⊥) → line ≡ None
  none_left i None low gone there = refl
  none_left i (Some number) low gone there =
      absurd (there (left_is_gone job.steps i number low gone))

  module _ (gone : ℕ → Option ℕ) (are : AreGone job line_of job.steps gone) where
    pub none_gone : ((i : ℕ) → i < job.procs → gone i ≡ None) → NoneGone job
    none_gone none i low = subst (GoneIn job line_of job.steps i) (none i low) (are i low)

    pub all_none : NoneGone job → (i : ℕ) → i < job.procs → gone i ≡ None
    all_none there i low = none_left i (gone i) low (are i low) (there i low)
