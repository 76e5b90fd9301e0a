-- What a stage of a reader stands for: the rest of its script.
use Rattle.std.specs.Prelude.{◌≡◌, ℕ, ◌%◌, ◌<◌, ◌≤◌, ◌==◌, length, nat_le, if◌then◌else◌, List}
use Rattle.pram_job.specs.Job.{JobData}
use Rattle.pram_words.specs.declared.phases.TheConstants.{LAST_PHASE}
use Rattle.pram_words.specs.Stamps.{stamp_of, payload_of}
use Rattle.pram_words.specs.Words.{LayoutData, number_of}
use Rattle.pram_words.specs.declared.words.Word.TheVariants.{Conflict, Stored}
use Rattle.walkx.specs.declared.operation.Op.TheVariants.{Load}
use Rattle.walkx.specs.declared.operation.Reading.{Reading}
use Rattle.walkx.specs.declared.operation.Reading.TheVariants.{At}
use Rattle.walkx.specs.declared.reader.Glance.{Glance}
use Rattle.walkx.specs.declared.reader.Glance.TheVariants as glance
use Rattle.walkx.specs.Scripts.{Script, asks, ends, rest_after}
use Rattle.pram_words.specs.Stamps.{newer_payload}
use Rattle.walkx.specs.Reads.{HeardAdmitted, Looking, look_of, looks_for, read_script}
use Rattle.walkx.specs.Reads.{reader_script, step_seen, lesser, told_at}

-- the first word was heard once more
abbrev pub reads_again : ℕ → ℕ → ℕ → ℕ → Script Reading
reads_again step first second again = if again == first then ends (At step (payload_of first))
    else told_at (lesser again second)

-- both words were heard
abbrev pub reads_both : LayoutData → ℕ → ℕ → ℕ → ℕ → Script Reading
reads_both layout cell step first second =
    if nat_le (stamp_of first) step
    then (if nat_le (stamp_of second) step then ends (At step (newer_payload first second))
    else asks (Load (number_of layout (Stored cell 0)))
    (λ again. reads_again step first second again))
    else (if nat_le (stamp_of second) step then ends (At step (payload_of second))
    else told_at (lesser first second))

abbrev pub script_of_glance : LayoutData → ℕ → Glance → Script Reading
script_of_glance layout cell glance.Begin = reader_script layout cell
script_of_glance layout cell (glance.Look root) =
    asks (Load (number_of layout Conflict))
    (λ conflict. read_script layout cell (step_seen root conflict))
script_of_glance layout cell (glance.First step) = read_script layout cell step
script_of_glance layout cell (glance.Second step first) =
    asks (Load (number_of layout (Stored cell 1)))
    (λ second. reads_both layout cell step first second)
script_of_glance layout cell (glance.Again step first second) =
    asks (Load (number_of layout (Stored cell 0))) (λ again. reads_again step first second again)
script_of_glance layout cell (glance.Over reading) = ends reading

-- an answer to a stage, and a stage after it
abbrev pub HearsGlance : JobData → LayoutData → ℕ → Glance → ℕ → Type 0
HearsGlance job layout cell stage answer =
    HeardAdmitted job layout (looks_for (script_of_glance layout cell stage)) answer

abbrev pub StandsAfterGlance : LayoutData → ℕ → Glance → ℕ → Glance → Type 0
StandsAfterGlance layout cell old answer new =
    script_of_glance layout cell new ≡ rest_after (script_of_glance layout cell old) answer

-- a root that was heard is the phase that ends a step
abbrev pub IsGlance : Glance → Type 0
IsGlance (glance.Look root) = (root % 3 ≡ 0) × (root ≤ LAST_PHASE)
IsGlance _ = Unit {0}

-- how many answers were heard at most
abbrev pub most_looked : Glance → ℕ
most_looked glance.Begin = 0
most_looked (glance.Look root) = 1
most_looked (glance.First step) = 2
most_looked (glance.Second step first) = 3
most_looked (glance.Again step first second) = 4
most_looked (glance.Over reading) = 5

-- a later stage, unless the reader was over
abbrev pub IsLaterGlance : Glance → Glance → Type 0
IsLaterGlance (glance.Over reading) new = Unit {0}
IsLaterGlance old new = most_looked old < most_looked new

-- a reader, and the stage of its script
pub record ReaderData : Type 0 where
  pub looking : Looking
  pub stage : Glance

-- by the fields of the code
abbrev pub reader_data : ℕ → Glance → List ℕ → ReaderData
reader_data cell stage heard =
    record { looking = record { cell = cell; heard = heard }; stage = stage }

-- its stage stands for the rest of its script
pub record StandsAtGlance (layout : LayoutData) (reader : ReaderData) : Type 0 where
  pub rest : look_of layout reader.looking
      ≡ script_of_glance layout reader.looking.cell reader.stage
  pub stage : IsGlance reader.stage
  pub few : length reader.looking.heard ≤ most_looked reader.stage
