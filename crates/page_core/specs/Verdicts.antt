-- What is said of a submission, in numbers and bytes.
use Rattle.std.specs.Prelude.{◌≡◌, ◌⊎◌, ℕ, ◌<◌, ◌==◌, Bool, if◌then◌else◌, List, [], length, take}
use Rattle.pram_cost.specs.declared.meeting.Sharing.{Sharing}
use Rattle.pram_cost.specs.declared.meeting.Sharing.TheVariants as share
use Rattle.pram_cost.specs.Models.{strength}
use Rattle.pardo_text.specs.declared.fault.PardoFault.{PardoFault}
use Rattle.pardo_job.specs.declared.fault.Refusal.{Refusal}
use Rattle.pardo_job.specs.declared.fault.Refusal.TheVariants.{Text, Job}
use Rattle.exercise_text.specs.declared.fault.ExerciseKind.{ExerciseKind}
use Rattle.exercise_text.specs.declared.fault.ExerciseKind.TheVariants as exercise_kind
use Rattle.exercise_text.specs.declared.key.Key.TheVariants as key
use Rattle.exercise_text.specs.Keys.{key_place}
use Rattle.exercise_judge.specs.declared.verdict.Bar.{Bar}
use Rattle.exercise_judge.specs.declared.verdict.Bar.TheVariants as bar
use Rattle.exercise_judge.specs.declared.verdict.UnfitKind.{UnfitKind}
use Rattle.exercise_judge.specs.declared.verdict.UnfitKind.TheVariants as unfit
use Rattle.exercise_judge.specs.declared.verdict.Verdict.TheVariants.{Passed, Failed}
use Rattle.exercise_judge.specs.declared.verdict.Wrong.{Wrong}
use Rattle.exercise_judge.specs.declared.verdict.Wrong.TheVariants as wrong
use Rattle.page_core.specs.declared.codes.TheConstants.{MEMORY, NO_ROOM, TEXT_TOO_LONG}
use Rattle.page_core.specs.Programs.{job_kind_code, text_kind_code}
use Rattle.page_core.specs.declared.exercise_codes.TheConstants.{FAILED, NO_EXERCISE, PASSED, UNFIT}
use Rattle.page_core.specs.declared.entries.NoExercise.TheVariants as none
use Rattle.page_core.specs.declared.submission.Finding.{Finding}
use Rattle.page_core.specs.declared.submission.Finding.TheVariants.{NoExercise, TextTooLong}
use Rattle.page_core.specs.declared.submission.Finding.TheVariants.{Unfit, Judged}
use Rattle.page_core.specs.declared.verdict.VerdictTold.{VerdictTold}
use Rattle.page_core.specs.Submissions.{IsFinding}

-- ---- numbers

-- those of faults are the same as in other calls; out of memory is no fault
abbrev pub refusal_code : Refusal → ℕ
refusal_code (Text fault) = text_kind_code fault.kind
refusal_code (Job fault) = job_kind_code fault.kind

abbrev pub refusal_line : Refusal → ℕ
refusal_line (Text fault) = fault.line
refusal_line (Job fault) = fault.line

-- the number of the key of a bar
abbrev pub bar_code : Bar → ℕ
bar_code bar.Time = key_place key.Time
bar_code bar.Operations = key_place key.Operations
bar_code bar.Steps = key_place key.Steps
bar_code bar.Lines = key_place key.Lines

abbrev pub sharing_code : Sharing → ℕ
sharing_code share.SameRead = 0
sharing_code share.SameWrite = 1
sharing_code share.OtherValue = 2

-- ---- what is told

abbrev pub of_code : ℕ → VerdictTold
of_code code = record {
  line = 0;
  within = 0;
  input = 0;
  bytes = 0;
  took = 0;
  most = 0;
  code = code;
  kind = 0;
  fault = 0;
  bar = 0;
  held = 0;
  wanted = 0;
  first = 0;
  second = 0;
  needs = 0;
  allowed = 0;
  sharing = 0;
  hidden = 0;
}

abbrev pub wrong_told : Wrong → VerdictTold
wrong_told (wrong.Missing line) = record (of_code FAILED) { kind = 1 }
wrong_told (wrong.Program refusal) = record (of_code FAILED) {
  kind = 2;
  fault = refusal_code refusal;
  line = refusal_line refusal;
}
wrong_told (wrong.Conflict line place first second) =
    record (of_code FAILED) { kind = 3; line = line; first = first; second = second }
wrong_told (wrong.Value place held wanted) =
    record (of_code FAILED) { kind = 4; held = held; wanted = wanted }
wrong_told (wrong.Bar which took most) =
    record (of_code FAILED) { kind = 5; bar = bar_code which; took = took; most = most }
wrong_told (wrong.Model needs allowed sharing line place first second) = record (of_code FAILED) {
  kind = 6;
  needs = strength needs;
  allowed = strength allowed;
  sharing = sharing_code sharing;
  line = line;
  first = first;
  second = second;
}
wrong_told (wrong.Gone processor line) =
    record (of_code FAILED) { kind = 7; first = processor; line = line }
wrong_told (wrong.Places name has wanted) =
    record (of_code FAILED) { kind = 8; took = has; most = wanted }
wrong_told wrong.Memory = of_code MEMORY

-- the line that is missing, a place, or a name
abbrev pub wrong_text : Wrong → List ℕ
wrong_text (wrong.Missing line) = line.items
wrong_text (wrong.Conflict line place first second) = place.items
wrong_text (wrong.Value place held wanted) = place.items
wrong_text (wrong.Model needs allowed sharing line place first second) = place.items
wrong_text (wrong.Places name has wanted) = name.items
wrong_text _ = []

abbrev pub part_fault : ℕ → PardoFault → VerdictTold
part_fault line fault = record (of_code UNFIT) {
  line = line;
  fault = text_kind_code fault.kind;
  within = fault.line;
}

abbrev pub unfit_told : ℕ → UnfitKind → VerdictTold
unfit_told line (unfit.Given fault) = record (part_fault line fault) { kind = 1 }
unfit_told line (unfit.Answer fault) = record (part_fault line fault) { kind = 2 }
unfit_told line (unfit.Bar fault) = record (part_fault line fault) { kind = 3 }
unfit_told line (unfit.Reference refusal) = record (of_code UNFIT) {
  kind = 4;
  line = line;
  fault = refusal_code refusal;
  within = refusal_line refusal;
}
unfit_told line unfit.Conflict = record (of_code UNFIT) { kind = 5; line = line }
unfit_told line (unfit.Unknown word) =
    record (of_code UNFIT) { kind = 6; line = line; bytes = length word.items }
unfit_told line unfit.Contradiction = record (of_code UNFIT) { kind = 7; line = line }
unfit_told line unfit.Memory = of_code MEMORY

-- the word that sets nothing
abbrev pub unfit_text : UnfitKind → List ℕ
unfit_text (unfit.Unknown word) = word.items
unfit_text _ = []

abbrev pub code_of_fault : ExerciseKind → ℕ
code_of_fault exercise_kind.Memory = MEMORY
code_of_fault _ = NO_EXERCISE

-- of a hidden input only the kind of what is wrong, and its line
abbrev pub veiled : VerdictTold → VerdictTold
veiled told = record told {
  took = 0;
  most = 0;
  held = 0;
  wanted = 0;
  first = 0;
  second = 0;
  hidden = 1;
}

abbrev pub wrong_shown : Bool → Wrong → VerdictTold
wrong_shown hidden found = if hidden then veiled (wrong_told found) else wrong_told found

abbrev pub text_shown : Bool → Wrong → List ℕ
text_shown hidden found = if hidden then [] else wrong_text found

abbrev pub finding_told : Finding → VerdictTold
finding_told (NoExercise none.TextTooLong) = of_code TEXT_TOO_LONG
finding_told (NoExercise (none.Bad fault)) = of_code (code_of_fault fault.kind)
finding_told TextTooLong = of_code TEXT_TOO_LONG
finding_told (Unfit unfit) = unfit_told unfit.line unfit.kind
finding_told (Judged Passed) = of_code PASSED
finding_told (Judged (Failed input hidden wrong)) = record (wrong_shown hidden wrong) {
  input = input;
  bytes = length (text_shown hidden wrong);
}

abbrev pub finding_text : Finding → List ℕ
finding_text (Judged (Failed input hidden wrong)) = text_shown hidden wrong
finding_text (Unfit unfit) = unfit_text unfit.kind
finding_text _ = []

-- ---- the buffer

-- how many bytes were written
abbrev pub verdict_bytes : VerdictTold → ℕ
verdict_bytes told = if told.code == NO_ROOM then 0 else told.bytes

-- the text stands at the front of the buffer, or that is too small
abbrev pub IsFindingPut : Finding → List ℕ → List ℕ → VerdictTold → Type 0
IsFindingPut finding old new told =
    ((told ≡ finding_told finding)
    × (take (length (finding_text finding)) new ≡ finding_text finding))
    ⊎ ((told ≡ record (of_code NO_ROOM) { bytes = length (finding_text finding) })
    × (length old < length (finding_text finding)))

-- what is found of the submission is told
abbrev pub IsVerdictTold : List ℕ → List ℕ → List ℕ → List ℕ → VerdictTold → Type 0
IsVerdictTold text submission old new told =
    (finding : Finding) × IsFinding text submission finding × IsFindingPut finding old new told
