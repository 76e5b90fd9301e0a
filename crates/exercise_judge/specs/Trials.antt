-- What a submission has to do under one input, and that it does.
use Rattle.std.specs.Prelude.{◌≡◌, ◌≢◌, ◌≤◌, ◌<◌, ℕ, Bool, false, ◌++◌, List, [], ◌∷◌, All}
use Rattle.std.specs.Prelude.{IfSome, MatchBool}
use Rattle.std.specs.Prelude.{MatchOption, map}
use Rattle.std.specs.Prelude.{codes, slice_index, unwrap_or, Option, Some, None, Ok}
use Rattle.std.specs.Option.{option_and_then}
use Rattle.text_lines.specs.Lines.{Line, words_of}
use Rattle.pram_job.specs.Job.{JobData}
use Rattle.pram_step.specs.declared.answer.RunAnswer.TheVariants.{Final}
use Rattle.pram_machine.specs.Machine.{counter, out_of_range}
use Rattle.pram_step.specs.Runs.{IsAnswer, state_after}
use Rattle.pram_cost.specs.Models.{AcceptsSteps}
use Rattle.pram_cost.specs.declared.pram.Pram.{Pram}
use Rattle.pardo_program.specs.Program.{ProgramData}
use Rattle.pardo_text.specs.Reading.{program_of}
use Rattle.pardo_job.specs.Compiled.{IsCompiled}
use Rattle.pardo_answers.specs.Costs.{line_costs, operations_in, time_in}
use Rattle.exercise_text.specs.declared.key.Key.{Key}
use Rattle.exercise_text.specs.declared.key.Key.TheVariants as key
use Rattle.exercise_text.specs.Entries.{EntryData, answer_of, bar_in, has_key, may_leave, model_in}
use Rattle.exercise_text.specs.Entries.{number_after, entry_text}
use Rattle.exercise_text.specs.Keys.{is_input}
use Rattle.exercise_text.specs.Submissions.{code_lines, judged_text, missing_line}
use Rattle.exercise_text.specs.Sets.{unknown_word}
use Rattle.exercise_text.specs.Headers.{header_as_set, header_of, expression_value}
use Rattle.exercise_text.specs.Values.{WantedData, held_by, array_start, wanted_by}

-- The header as the input sets it, what is wanted at the end, the bars, the weakest model that is
-- allowed, whether processors may leave, and whether the input is hidden.
pub record TrialData : Type 0 where
  pub header : List ℕ
  pub wanted : List WantedData
  pub time : Option ℕ
  pub operations : Option ℕ
  pub steps : Option ℕ
  pub lines : Option ℕ
  pub model : Option Pram
  pub may_leave : Bool
  pub hidden : Bool

-- ---- a program and its job

-- The text spells the program, and its job ends without a conflict, with these cells.
pub record EndsWith (text : List ℕ) (program : ProgramData) (job : JobData) (line_of : ℕ → ℕ)
    (cells : List ℕ) : Type 0 where
  pub reads : program_of text ≡ Ok program
  pub compiled : IsCompiled program job line_of
  pub ends : IsAnswer job (Final cells)

-- ---- a trial is met

-- it takes no more than a bar, if there is one, allows
abbrev pub KeepsBar : Option ℕ → ℕ → Type 0
KeepsBar most took = IfSome most (λ allowed. took ≤ allowed)

-- the names hold what is wanted
abbrev pub AreHeld : List WantedData → ProgramData → (ℕ → ℕ) → Type 0
AreHeld wanted program cells =
    All (λ want. held_by program.arrays cells want.name ≡ want.values) wanted

-- no processor is gone at the end
abbrev pub NoneGone : JobData → Type 0
NoneGone job =
    (i : ℕ) → i < job.procs → counter job (state_after job job.steps) i ≢ out_of_range job

-- The submission has all given lines. With the header of the trial it is a program that ends with
-- the wanted values, within the bars, under the model; and with all processors, unless they may
-- leave.
pub record Meets (trial : TrialData) (submission : List ℕ) : Type 0 where
  pub given : missing_line trial.header submission ≡ None
  pub program : ProgramData
  pub job : JobData
  pub line_of : ℕ → ℕ
  pub cells : List ℕ
  pub ends : EndsWith (judged_text trial.header submission) program job line_of cells
  pub values : AreHeld trial.wanted program (slice_index cells)
  pub there : trial.may_leave ≡ false → NoneGone job
  pub time : KeepsBar trial.time (time_in (line_costs program job))
  pub operations : KeepsBar trial.operations (operations_in (line_costs program job))
  pub steps : KeepsBar trial.steps job.steps
  pub lines : KeepsBar trial.lines (code_lines submission)
  pub model : IfSome trial.model (λ model. AcceptsSteps model job job.steps)

-- ---- the trials of an exercise

-- the bar of this key has this value
abbrev pub IsBar : List EntryData → List ℕ → Key → Option ℕ → Type 0
IsBar exercise header key most = MatchOption (option_and_then bar_in (entry_text key exercise))
    (most ≡ None)
    (λ bar. (value : ℕ) × (expression_value header bar ≡ Ok value) × (most ≡ Some value))

-- the names of an exercise
abbrev pub part_in : Key → List EntryData → List ℕ
part_in key exercise = unwrap_or (entry_text key exercise) []

abbrev pub wanted_names : List EntryData → Line
wanted_names exercise = words_of (part_in key.Want exercise)

-- what the input says is wanted: what the names start with, as its words behind `->` set them
abbrev pub AreSaid : List ℕ → Line → Line → List WantedData → Type 0
AreSaid header words names wanted = (set : List ℕ) × (program : ProgramData)
    × (header_as_set header words ≡ Ok set) × (header_of set (codes "0") ≡ Ok program)
    × (wanted ≡ map (wanted_by (array_start program.arrays)) names)

-- what the names hold at the end of the program that a text spells
pub record AreEnds (text : List ℕ) (names : Line) (wanted : List WantedData) : Type 0 where
  pub program : ProgramData
  pub job : JobData
  pub line_of : ℕ → ℕ
  pub cells : List ℕ
  pub ends : EndsWith text program job line_of cells
  pub are : wanted ≡ map (wanted_by (held_by program.arrays (slice_index cells))) names

-- what an input says is wanted, or what the reference ends with
abbrev pub AreWanted : List EntryData → EntryData → List ℕ → List WantedData → Type 0
AreWanted exercise input header wanted = MatchOption (answer_of (words_of input.text))
    (AreEnds (header ++ part_in key.Reference exercise) (wanted_names exercise) wanted)
    (λ words. AreSaid header words (wanted_names exercise) wanted)

-- if there is a reference, it ends with what is wanted
abbrev pub IsReferenced : List EntryData → List ℕ → List WantedData → Type 0
IsReferenced exercise header wanted = IfSome (entry_text key.Reference exercise)
    (λ reference. AreEnds (header ++ reference) (wanted_names exercise) wanted)

-- each wanted name has values
abbrev pub HaveValues : List WantedData → Type 0
HaveValues wanted = All (λ want. want.values ≢ []) wanted

abbrev pub model_of : List EntryData → Option Pram
model_of exercise = option_and_then model_in (entry_text key.Model exercise)

-- The trial of an input of an exercise. Each word of the input sets a name that the header
-- declares.
pub record IsTrial (exercise : List EntryData) (input : EntryData) (trial : TrialData)
    : Type 0 where
  pub words : unknown_word (part_in key.Given exercise) (words_of input.text) ≡ None
  pub header : header_as_set (part_in key.Given exercise) (words_of input.text)
      ≡ Ok trial.header
  pub wanted : AreWanted exercise input trial.header trial.wanted
  pub known : HaveValues trial.wanted
  pub referenced : IsReferenced exercise trial.header trial.wanted
  pub time : IsBar exercise trial.header key.Time trial.time
  pub operations : IsBar exercise trial.header key.Operations trial.operations
  pub steps : IsBar exercise trial.header key.Steps trial.steps
  pub lines : trial.lines ≡ option_and_then number_after (entry_text key.Lines exercise)
  pub model : trial.model ≡ model_of exercise
  pub may_leave : trial.may_leave ≡ may_leave exercise
  pub hidden : trial.hidden ≡ has_key key.Hidden input

-- an entry that is an input adds its trial, and another one nothing
abbrev pub AddsTrial : List EntryData → EntryData → List TrialData → List TrialData → Type 0
AddsTrial exercise entry before after = MatchBool (is_input entry.key)
    ((trial : TrialData) × IsTrial exercise entry trial × (after ≡ before ++ trial ∷ []))
    (after ≡ before)

-- the trials that these entries of an exercise add to others, in their order
abbrev pub AddTrials : List EntryData → List EntryData → List TrialData → List TrialData → Type 0
AddTrials exercise [] before after = after ≡ before
AddTrials exercise (entry ∷ entries) before after = (next : List TrialData)
    × AddsTrial exercise entry before next × AddTrials exercise entries next after

-- the trials of the inputs of an exercise, in their order
abbrev pub AreTrials : List EntryData → List TrialData → Type 0
AreTrials exercise trials = AddTrials exercise exercise [] trials
