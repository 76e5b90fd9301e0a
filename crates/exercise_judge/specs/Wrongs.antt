-- What is wrong with a submission, and what is told of it.
use Rattle.std.specs.Prelude.{◌≡◌, ◌≢◌, ⊤, ℕ, ◌+◌, ◌<◌, false, List, length, slice_get, slice_index}
use Rattle.std.specs.Prelude.{Option, Some, None}
use Rattle.pram_step.specs.declared.answer.Fault.{Fault}
use Rattle.pram_step.specs.declared.answer.RunAnswer.TheVariants.{Final, Conflict}
use Rattle.pram_cost.specs.Beyond.{IsBeyond}
use Rattle.pram_cost.specs.Models.{IsWeakestModel}
use Rattle.pram_cost.specs.declared.beyond.Beyond.{Beyond}
use Rattle.pram_cost.specs.declared.pram.Pram.{Pram}
use Rattle.pardo_program.specs.Program.{ArrayData}
use Rattle.pardo_text.specs.declared.fault.PardoKind.TheVariants as text
use Rattle.pardo_job.specs.declared.fault.JobKind.TheVariants as job
use Rattle.pardo_job.specs.declared.fault.Refusal.{Refusal}
use Rattle.pardo_job.specs.declared.fault.Refusal.TheVariants.{Text, Job}
use Rattle.pardo_job.specs.Ends.{gone_in}
use Rattle.pardo_job.specs.Printed.{cell_text}
use Rattle.pardo_job.specs.Refusals.{IsProgramRefusal}
use Rattle.pardo_answers.specs.Costs.{operations_in, time_in}
use Rattle.pardo_answers.specs.Runs.{IsTextRun}
use Rattle.pardo_answers.specs.declared.run.Run.{Run}
use Rattle.exercise_text.specs.Submissions.{code_lines, judged_text, missing_line}
use Rattle.exercise_text.specs.Values.{WantedData, declared_array, held_by}
use Rattle.exercise_judge.specs.declared.verdict.Bar.{Bar}
use Rattle.exercise_judge.specs.declared.verdict.Bar.TheVariants as bar
use Rattle.exercise_judge.specs.declared.verdict.Wrong.{Wrong}
use Rattle.exercise_judge.specs.declared.verdict.Wrong.TheVariants as wrong
use Rattle.exercise_judge.specs.Trials.{TrialData}

-- ---- what is wrong with a run

-- the place of a name, or the name where nothing has it
abbrev pub place_named : List ArrayData → List ℕ → ℕ → List ℕ
place_named arrays name index = elim (declared_array arrays name) [
  | None ↦ name
  | Some array ↦ cell_text arrays (array.base + index)
]

-- a place of a wanted name holds another value than the one that is wanted
pub record HoldsOtherValue (want : WantedData) (arrays : List ArrayData) (cells : ℕ → ℕ)
    (place : List ℕ) (held value : ℕ) : Type 0 where
  pub index : ℕ
  pub place_is : place ≡ place_named arrays want.name index
  pub holds : slice_get (held_by arrays cells want.name) index ≡ Some held
  pub wants : slice_get want.values index ≡ Some value
  pub differ : held ≢ value

-- so it is; or the name has another number of places
abbrev pub HoldsOther : WantedData → List ArrayData → (ℕ → ℕ) → Wrong → Type 0
HoldsOther want arrays cells (wrong.Value place held value) =
    HoldsOtherValue want arrays cells place.items held value
HoldsOther want arrays cells (wrong.Places name has places) = (name.items ≡ want.name)
    × (has ≡ length (held_by arrays cells want.name)) × (places ≡ length want.values)
    × (has ≢ places)
HoldsOther want arrays cells _ = ⊥

-- one of the wanted names does not hold what is wanted
abbrev pub HoldsOtherAmong : List WantedData → List ArrayData → (ℕ → ℕ) → Wrong → Type 0
HoldsOtherAmong wanted arrays cells found = (at : ℕ) × (want : WantedData)
    × (slice_get wanted at ≡ Some want) × HoldsOther want arrays cells found

-- the least of so many processors that is gone, and its line
pub record IsLeastGone (procs : ℕ) (gone : ℕ → Option ℕ) (processor line : ℕ) : Type 0 where
  pub within : processor < procs
  pub is_gone : gone processor ≡ Some line
  pub least : (i : ℕ) → i < processor → gone i ≡ None

-- what a run takes of what a bar bounds
abbrev pub amount_of : List ℕ → Run → Bar → ℕ
amount_of submission run bar.Time = time_in run.costs.lines.items
amount_of submission run bar.Operations = operations_in run.costs.lines.items
amount_of submission run bar.Steps = run.job.steps
amount_of submission run bar.Lines = code_lines submission

-- the bar, if there is one
abbrev pub allowed_of : TrialData → Bar → Option ℕ
allowed_of trial bar.Time = trial.time
allowed_of trial bar.Operations = trial.operations
allowed_of trial bar.Steps = trial.steps
allowed_of trial bar.Lines = trial.lines

-- it says that a bar allows less than is taken
abbrev pub AllowsLess : Bar → Option ℕ → ℕ → Wrong → Type 0
AllowsLess which allowed takes found = (most : ℕ) × (found ≡ wrong.Bar which takes most)
    × (allowed ≡ Some most) × (most < takes)

-- the run ends in this conflict, in this line
abbrev pub IsConflictIn : Run → Wrong → Type 0
IsConflictIn run (wrong.Conflict line place first second) = (fault : Fault)
    × (run.ended.answer ≡ Conflict fault) × (line ≡ run.ended.lines.disputed)
    × (place.items ≡ cell_text run.program.arrays fault.cell)
    × (first ≡ fault.first) × (second ≡ fault.second)
IsConflictIn run _ = ⊥

-- the run needs a stronger model, since these two meet so first
abbrev pub IsBeyondIn : Pram → Run → Wrong → Type 0
IsBeyondIn model run (wrong.Model needs allowed sharing line place first second) =
    (allowed ≡ model) × IsWeakestModel run.job run.costs.cost.steps needs × ((beyond : Beyond)
    × IsBeyond model run.job run.costs.cost.steps beyond × (sharing ≡ beyond.sharing)
    × (line ≡ slice_index run.numbers.items beyond.meeting.counter)
    × (place.items ≡ cell_text run.program.arrays beyond.meeting.cell)
    × (first ≡ beyond.meeting.first) × (second ≡ beyond.meeting.second))
IsBeyondIn model run _ = ⊥

-- at the end of the run a wanted name does not hold what is wanted
abbrev pub EndsOther : TrialData → Run → Wrong → Type 0
EndsOther trial run found = (cells : List ℕ) × (run.ended.answer ≡ Final cells)
    × HoldsOtherAmong trial.wanted run.program.arrays (slice_index cells) found

-- What is said to be wrong with a run is wrong so.
abbrev pub IsWrongIn : TrialData → List ℕ → Run → Wrong → Type 0
IsWrongIn trial submission run (wrong.Conflict line place first second) =
    IsConflictIn run (wrong.Conflict line place first second)
IsWrongIn trial submission run (wrong.Value place held value) =
    EndsOther trial run (wrong.Value place held value)
IsWrongIn trial submission run (wrong.Places name has places) =
    EndsOther trial run (wrong.Places name has places)
IsWrongIn trial submission run (wrong.Gone processor line) = (trial.may_leave ≡ false)
    × IsLeastGone run.job.procs (gone_in run.ended.lines.gone.items) processor line
IsWrongIn trial submission run (wrong.Bar which took most) =
    (took ≡ amount_of submission run which) × (allowed_of trial which ≡ Some most) × (most < took)
IsWrongIn trial submission run (wrong.Model needs allowed sharing line place first second) =
    (model : Pram) × (trial.model ≡ Some model)
    × IsBeyondIn model run (wrong.Model needs allowed sharing line place first second)
IsWrongIn trial submission run (wrong.Missing line) = ⊥
IsWrongIn trial submission run (wrong.Program refusal) = ⊥
IsWrongIn trial submission run wrong.Memory = ⊤

-- ---- what is wrong with a submission

-- it is not that memory ran out
abbrev pub IsNoMemory : Refusal → Type 0
IsNoMemory (Text fault) = fault.kind ≢ text.Memory
IsNoMemory (Job fault) = fault.kind ≢ job.Memory

-- the submission has all given lines, and its run is wrong so
abbrev pub RunsWrong : TrialData → List ℕ → Wrong → Type 0
RunsWrong trial submission found = (missing_line trial.header submission ≡ None) × ((run : Run)
    × IsTextRun (judged_text trial.header submission) run × IsWrongIn trial submission run found)

-- What is said to be wrong with a submission is wrong so. Of memory that ran out nothing is known.
abbrev pub IsWrong : TrialData → List ℕ → Wrong → Type 0
IsWrong trial submission (wrong.Missing line) =
    missing_line trial.header submission ≡ Some line.items
IsWrong trial submission (wrong.Program refusal) =
    (missing_line trial.header submission ≡ None) × IsNoMemory refusal
    × IsProgramRefusal (judged_text trial.header submission) refusal
IsWrong trial submission wrong.Memory = ⊤
IsWrong trial submission found = RunsWrong trial submission found
