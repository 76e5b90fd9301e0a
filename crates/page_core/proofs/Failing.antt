-- What is told to have failed was judged so.
use Rattle.std.proofs.Common.{◌≡◌, inl, inr, ℕ, List, sym, ap, subst, ◌∙◌, arith}
use Rattle.exercise_text.specs.declared.fault.ExerciseKind.{ExerciseKind}
use Rattle.exercise_text.specs.declared.fault.ExerciseKind.TheVariants as kind
use Rattle.exercise_judge.specs.declared.verdict.UnfitKind.{UnfitKind}
use Rattle.exercise_judge.specs.declared.verdict.UnfitKind.TheVariants as unfit
use Rattle.exercise_judge.specs.declared.verdict.Verdict.TheVariants.{Passed, Failed}
use Rattle.page_core.specs.declared.exercise_codes.TheConstants.{FAILED}
use Rattle.page_core.specs.declared.submission.Finding.{Finding}
use Rattle.page_core.specs.declared.submission.Finding.TheVariants.{NoExercise, TextTooLong}
use Rattle.page_core.specs.declared.submission.Finding.TheVariants.{Unfit, Judged}
use Rattle.page_core.specs.declared.entries.NoExercise.TheVariants as none
use Rattle.page_core.specs.declared.verdict.VerdictTold.{VerdictTold}
use Rattle.page_core.specs.Submissions.{IsFailed, IsFinding}
use Rattle.page_core.specs.Verdicts.{IsFindingPut, code_of_fault, finding_told, unfit_told}

-- what is told of no exercise says nothing of a failure
fault_told : {X : Type 0} (why : ExerciseKind) → code_of_fault why ≡ FAILED → X
fault_told kind.NotAscii code = absurd (omega arith)
fault_told kind.BadHeader code = absurd (omega arith)
fault_told kind.UnknownKey code = absurd (omega arith)
fault_told kind.BadLine code = absurd (omega arith)
fault_told kind.Duplicate code = absurd (omega arith)
fault_told kind.NoAnswer code = absurd (omega arith)
fault_told (kind.Missing key) code = absurd (omega arith)
fault_told kind.Memory code = absurd (omega arith)

-- nor of an exercise that cannot be judged by
unfit_is_told : {X : Type 0} (line : ℕ) (why : UnfitKind) →
    (unfit_told line why).code ≡ FAILED → X
unfit_is_told line (unfit.Given fault) code = absurd (omega arith)
unfit_is_told line (unfit.Answer fault) code = absurd (omega arith)
unfit_is_told line (unfit.Bar fault) code = absurd (omega arith)
unfit_is_told line (unfit.Reference refusal) code = absurd (omega arith)
unfit_is_told line unfit.Conflict code = absurd (omega arith)
unfit_is_told line (unfit.Unknown word) code = absurd (omega arith)
unfit_is_told line unfit.Contradiction code = absurd (omega arith)
unfit_is_told line unfit.Memory code = absurd (omega arith)

-- what is told of a finding as failed is a verdict that it failed
told_failed : (text submission : List ℕ) (finding : Finding) →
    IsFinding text submission finding → (finding_told finding).code ≡ FAILED →
    IsFailed text submission (finding_told finding).input
told_failed text submission (Judged (Failed input hidden wrong)) is code = (hidden, wrong, is)
told_failed text submission (Judged Passed) is code = absurd (omega arith)
told_failed text submission TextTooLong is code = absurd (omega arith)
told_failed text submission (NoExercise none.TextTooLong) is code = absurd (omega arith)
told_failed text submission (NoExercise (none.Bad fault)) is code = fault_told fault.kind code
told_failed text submission (Unfit why) is code = unfit_is_told why.line why.kind code

-- and so of all that is told
pub failed : (text submission : List ℕ) (finding : Finding) (old new : List ℕ) (told : VerdictTold) →
    IsFinding text submission finding → IsFindingPut finding old new told →
    told.code ≡ FAILED → IsFailed text submission told.input
failed text submission finding old new told is (inl (same, front)) code =
    subst (λ (t : VerdictTold). IsFailed text submission t.input) (sym same)
    (told_failed text submission finding is (sym (ap (λ (t : VerdictTold). t.code) same) ∙ code))
failed text submission finding old new told is (inr (same, few)) code =
    let none : told.code ≡ 4 = ap (λ (t : VerdictTold). t.code) same in absurd (omega arith)
