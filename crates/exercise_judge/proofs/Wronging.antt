-- What each test of a run finds wrong is wrong with the run.
use Rattle.std.proofs.Common.{◌≡◌, ◌∙◌, ◌⊎◌, ℕ, List, Option, Some, None, false}
use Rattle.std.proofs.Common.{Bool, inl, inr, refl, subst, sym}
use Rattle.std.specs.Prelude.{slice_index}
use Rattle.pram_step.specs.declared.answer.RunAnswer.TheVariants.{Final}
use Rattle.pram_cost.specs.declared.pram.Pram.{Pram}
use Rattle.pardo_job.specs.Ends.{gone_in}
use Rattle.pardo_job.specs.Refusals.{IsProgramRefusal}
use Rattle.pardo_job.specs.declared.fault.Refusal.{Refusal}
use Rattle.pardo_answers.specs.Costs.{operations_in, time_in}
use Rattle.pardo_answers.specs.Runs.{IsTextRun}
use Rattle.pardo_answers.specs.declared.run.Run.{Run}
use Rattle.pardo_program.specs.Program.{ArrayData}
use Rattle.exercise_text.specs.Values.{WantedData}
use Rattle.exercise_text.specs.Submissions.{judged_text, missing_line}
use Rattle.exercise_judge.specs.declared.verdict.Bar.{Bar}
use Rattle.exercise_judge.specs.declared.verdict.Bar.TheVariants as bar
use Rattle.exercise_judge.specs.declared.verdict.Wrong.{Wrong}
use Rattle.exercise_judge.specs.declared.verdict.Wrong.TheVariants as wrong
use Rattle.exercise_judge.specs.Trials.{TrialData}
use Rattle.exercise_judge.specs.Wrongs.{AllowsLess, EndsOther, HoldsOtherAmong, IsBeyondIn}
use Rattle.exercise_judge.specs.Wrongs.{IsConflictIn, IsLeastGone, IsNoMemory, IsWrong, IsWrongIn}
use Rattle.exercise_judge.specs.Wrongs.{allowed_of, amount_of}

module _ (trial : TrialData) (submission : List ℕ) (run : Run) where
  abbrev Is : Wrong → Type 0
  Is found = IsWrongIn trial submission run found

  pub of_memory : (found : Wrong) → found ≡ wrong.Memory → Is found
  of_memory found same = subst Is (sym same) tt

  by_conflict : (found : Wrong) → IsConflictIn run found → Is found
  by_conflict (wrong.Conflict line place first second) is = is
  by_conflict (wrong.Missing line) is = absurd is
  by_conflict (wrong.Program refusal) is = absurd is
  by_conflict (wrong.Value place held value) is = absurd is
  by_conflict (wrong.Bar which took most) is = absurd is
  by_conflict (wrong.Model needs allowed sharing line place first second) is = absurd is
  by_conflict (wrong.Gone processor line) is = absurd is
  by_conflict (wrong.Places name has places) is = absurd is
  by_conflict wrong.Memory is = absurd is

  pub of_conflict : (found : Wrong) → (found ≡ wrong.Memory) ⊎ IsConflictIn run found → Is found
  of_conflict found (inl same) = of_memory found same
  of_conflict found (inr is) = by_conflict found is

  by_value : (found : Wrong) → EndsOther trial run found → Is found
  by_value (wrong.Value place held value) is = is
  by_value (wrong.Places name has places) is = is
  by_value (wrong.Missing line) is = absurd is.2.3
  by_value (wrong.Program refusal) is = absurd is.2.3
  by_value (wrong.Conflict line place first second) is = absurd is.2.3
  by_value (wrong.Bar which took most) is = absurd is.2.3
  by_value (wrong.Model needs allowed sharing line place first second) is = absurd is.2.3
  by_value (wrong.Gone processor line) is = absurd is.2.3
  by_value wrong.Memory is = absurd is.2.3

  pub of_value : (cells : List ℕ) → run.ended.answer ≡ Final cells → (wanted : List WantedData) →
      (arrays : List ArrayData) → trial.wanted ≡ wanted → run.program.arrays ≡ arrays →
      (found : Wrong) → (found ≡ wrong.Memory)
      ⊎ HoldsOtherAmong wanted arrays (slice_index cells) found → Is found
  of_value cells ends wanted arrays wants has found (inl same) = of_memory found same
  of_value cells ends wanted arrays wants has found (inr is) = by_value found (
    cells,
    ends,
    subst (λ (w : List WantedData). HoldsOtherAmong w run.program.arrays (slice_index cells) found)
        (sym wants)
        (subst (λ (a : List ArrayData). HoldsOtherAmong wanted a (slice_index cells) found)
        (sym has) is),
  )

  pub of_gone : (stays : Bool) → trial.may_leave ≡ stays → (found : Wrong) →
      (stays ≡ false) × ((processor : ℕ) × (line : ℕ)
      × (found ≡ wrong.Gone processor line)
      × IsLeastGone run.job.procs (gone_in run.ended.lines.gone.items) processor line) → Is found
  of_gone stays may found (may_not, (processor, line, same, is)) =
      subst Is (sym same) (may ∙ may_not, is)

  pub of_bar : (which : Bar) (allowed : Option ℕ) (takes : ℕ) (found : Wrong) →
      allowed_of trial which ≡ allowed → amount_of submission run which ≡ takes →
      AllowsLess which allowed takes found → Is found
  of_bar which allowed takes found most took (least, same, some, more) =
      subst Is (sym same) (sym took, most ∙ some, more)

  pub of_costs : (found : Wrong) →
      AllowsLess bar.Time trial.time (time_in run.costs.lines.items) found
      ⊎ AllowsLess bar.Operations trial.operations (operations_in run.costs.lines.items) found →
      Is found
  of_costs found (inl less) =
      of_bar bar.Time trial.time (time_in run.costs.lines.items) found refl refl less
  of_costs found (inr less) =
      of_bar bar.Operations trial.operations (operations_in run.costs.lines.items) found refl refl
      less

  by_model : (model : Pram) (found : Wrong) → trial.model ≡ Some model →
      IsBeyondIn model run found → Is found
  by_model model (wrong.Model needs allowed sharing line place first second) has is =
      (model, has, is)
  by_model model (wrong.Conflict line place first second) has is = absurd is
  by_model model (wrong.Missing line) has is = absurd is
  by_model model (wrong.Program refusal) has is = absurd is
  by_model model (wrong.Value place held value) has is = absurd is
  by_model model (wrong.Bar which took most) has is = absurd is
  by_model model (wrong.Gone processor line) has is = absurd is
  by_model model (wrong.Places name has_places places) has is = absurd is
  by_model model wrong.Memory has is = absurd is

  pub of_model : (allows : Option Pram) → trial.model ≡ allows → (found : Wrong) →
      (found ≡ wrong.Memory)
      ⊎ ((model : Pram) × (allows ≡ Some model) × IsBeyondIn model run found) → Is found
  of_model allows same found (inl memory) = of_memory found memory
  of_model allows same found (inr (model, has, is)) = by_model model found (same ∙ has) is

  -- and with the submission
  pub of_run : missing_line trial.header submission ≡ None →
      IsTextRun (judged_text trial.header submission) run → (found : Wrong) → Is found →
      IsWrong trial submission found
  of_run given is (wrong.Missing line) wrong_so = absurd wrong_so
  of_run given is (wrong.Program refusal) wrong_so = absurd wrong_so
  of_run given is wrong.Memory wrong_so = wrong_so
  of_run given is (wrong.Conflict line place first second) wrong_so = (given, (run, is, wrong_so))
  of_run given is (wrong.Value place held value) wrong_so = (given, (run, is, wrong_so))
  of_run given is (wrong.Bar which took most) wrong_so = (given, (run, is, wrong_so))
  of_run given is (wrong.Model needs allowed sharing line place first second) wrong_so =
      (given, (run, is, wrong_so))
  of_run given is (wrong.Gone processor line) wrong_so = (given, (run, is, wrong_so))
  of_run given is (wrong.Places name has places) wrong_so = (given, (run, is, wrong_so))

-- a bar that allows less, by other names
pub less_same : (which : Bar) (a b : Option ℕ) (s t : ℕ) → a ≡ b → s ≡ t → (found : Wrong) →
    AllowsLess which a s found → AllowsLess which b t found
less_same which a b s t most took found less =
    subst (λ (m : Option ℕ). AllowsLess which m t found) most
    (subst (λ (n : ℕ). AllowsLess which a n found) took less)

-- what is said of a text that is refused
pub of_refusal : (trial : TrialData) (submission : List ℕ) (refusal : Refusal) (found : Wrong) →
    missing_line trial.header submission ≡ None →
    IsProgramRefusal (judged_text trial.header submission) refusal →
    (found ≡ wrong.Memory) ⊎ ((found ≡ wrong.Program refusal) × IsNoMemory refusal) →
    IsWrong trial submission found
of_refusal trial submission refusal found given is (inl same) =
    subst (IsWrong trial submission) (sym same) tt
of_refusal trial submission refusal found given is (inr (same, certain)) =
    subst (IsWrong trial submission) (sym same) (given, certain, is)
