-- The end of the job is that of the program.
use Rattle.std.proofs.Common.{◌≡◌, ℕ, ◌+◌, ◌<◌, ◌≤◌, Option, Some, None}
use Rattle.std.proofs.Common.{refl, sym, ap, ◌∙◌, ⊎_elim, arith}
use Rattle.std.specs.Prelude.{slice_index}
use Rattle.std.proofs.lemmas.Bool.{cases_lt}
use Rattle.pram_job.specs.Job.{JobData}
use Rattle.pram_machine.specs.Machine.{State, counter, halted}
use Rattle.pram_step.specs.Runs.{state_after}
use Rattle.pardo_program.specs.Program.{ProgramData}
use Rattle.pardo_job.specs.Carries.{EndsAs}
use Rattle.pardo_job.specs.Compiled.{AreLineNumbers, IsWhole}
use Rattle.pardo_job.specs.Leaving.{Leaves, GoneIn}
use Rattle.pardo_job.specs.Meaning.{after}
use Rattle.pardo_job.specs.Runs.{IsProgramOver}
use Rattle.pardo_law.proofs.Carried.{Carried}
use Rattle.pardo_law.proofs.Carrying.{AreMade, carried_made, time_of}
use Rattle.pardo_law.proofs.Leaving.{left_after}
use Rattle.pardo_law.proofs.Picturing.{IsOf}
use Rattle.pardo_law.proofs.Showing.{Whole, whole_at, all_stopped, reached_last, last_cells}
use Rattle.pardo_law.proofs.Showing.{last_there, later_same}

module _ (program : ProgramData) (job : JobData) (of : IsOf program job) (whole : IsWhole job)
    (line_of : ℕ → ℕ)
    (numbers : AreLineNumbers program line_of) (n : ℕ) (made : AreMade program n)
    (over : IsProgramOver program (after program n)) where
  carried : Carried program job (after program n) (time_of program n)
  carried = carried_made program job of n made

  pub done : Whole job (time_of program n + 1)
  done = whole_at job (time_of program n + 1) whole
      (reached_last program job of (after program n) (time_of program n) carried over)
      (all_stopped program job of (after program n) (time_of program n) carried over)

  same_from : (t : ℕ) → job.steps ≤ t → state_after job job.steps ≡ state_after job t
  same_from t le = later_same job job.steps t le done.stops.reached done.stops.stopped

  -- nobody leaves after the last step
  leaves_within : (i number : ℕ) → Leaves job line_of (time_of program n) i number →
      Leaves job line_of job.steps i number
  leaves_within i number left = record {
    before = left.before;
    within = ⊎_elim (λ (low : left.before < job.steps). low)
        (λ (high : job.steps ≤ left.before). absurd (left.was_there
        (ap (λ (s : State). counter job s i)
        (sym (same_from left.before high) ∙ same_from (left.before + 1) (omega arith))
        ∙ left.is_gone)))
        (cases_lt left.before job.steps);
    was_there = left.was_there;
    is_gone = left.is_gone;
    comes = left.comes;
  }

  gone_by : (i : ℕ) → i < program.procs → (g : Option ℕ) → (after program n).gone i ≡ g →
      GoneIn job line_of job.steps i g
  gone_by i lt (Some number) e =
      leaves_within i number (left_after program job of line_of numbers n made i lt number e)
  gone_by i lt None e = λ out.
      let there : counter job (state_after job job.steps) i ≡ halted job =
      ap (λ (s : State). counter job s i) (same_from (time_of program n + 1) done.within)
      ∙ last_there program job of (after program n) (time_of program n) carried over i lt e in
      omega arith

  pub ends_as : EndsAs program job line_of (after program n)
  ends_as = record {
    reached = done.stops.reached;
    stopped = done.stops.stopped;
    cells = λ cell lt. ap (λ (s : State). slice_index s cell)
        (same_from (time_of program n + 1) done.within)
        ∙ last_cells program job of (after program n) (time_of program n) carried over cell lt;
    gone = λ i lt. gone_by i lt ((after program n).gone i) refl;
  }
