-- Where a run first goes beyond a model of the PRAM.
use Rattle.std.specs.Prelude.{◌++◌, ℕ, ◌<◌, ◌≤◌, ◌||◌, List, Option, Some, None}
use Rattle.std.specs.Prelude.{codes, if◌then◌else◌}
use Rattle.std.specs.Str.{bytes_eq}
use Rattle.pram_job.specs.Job.{JobData}
use Rattle.pram_cost.specs.declared.beyond.Beyond.{Beyond}
use Rattle.pram_cost.specs.declared.meeting.Sharing.{Sharing}
use Rattle.pram_cost.specs.declared.meeting.Sharing.TheVariants.{SameRead, SameWrite, OtherValue}
use Rattle.pram_cost.specs.declared.pram.Pram.{Pram}
use Rattle.pram_cost.specs.declared.pram.Pram.TheVariants.{Erew, Crew, CommonCrcw, PriorityCrcw}
use Rattle.pram_cost.specs.Meetings.{IsFirstMeeting, MeetIn}
use Rattle.pram_cost.specs.Models.{AcceptsSteps, strength, weakest_for}
use Rattle.pram_cost.specs.Printed.{CostWords, meeting_text, name_of}
use Rattle.pram_step.specs.Runs.{state_after}

-- the model that a word names
abbrev pub model_named : List ℕ → Option Pram
model_named word =
    if bytes_eq word (codes "EREW") || bytes_eq word (codes "erew") then Some Erew
    else (if bytes_eq word (codes "CREW") || bytes_eq word (codes "crew") then Some Crew
    else (if bytes_eq word (codes "common") then Some CommonCrcw
    else (if bytes_eq word (codes "priority") then Some PriorityCrcw else None)))

-- The first of n steps that the model does not accept is that of this meeting, the first of its
-- kind, which a stronger model alone allows; and none meet in that step in a way that a weaker one
-- than that allows.
pub record IsBeyond (pram : Pram) (job : JobData) (n : ℕ) (beyond : Beyond) : Type 0 where
  pub first : IsFirstMeeting beyond.sharing job n beyond.meeting
  pub accepts_before : AcceptsSteps pram job first.before
  pub refused : strength pram < strength (weakest_for beyond.sharing)
  pub weakest : (sharing : Sharing) (cell i j : ℕ) →
      MeetIn sharing job (state_after job first.before) cell i j →
      strength pram < strength (weakest_for sharing) →
      strength (weakest_for beyond.sharing) ≤ strength (weakest_for sharing)

-- how two meet
abbrev pub sharing_text : Sharing → List ℕ
sharing_text SameRead = codes "same read"
sharing_text SameWrite = codes "same write"
sharing_text OtherValue = codes "other value"

-- what is told of it
abbrev pub beyond_line : CostWords → Pram → Beyond → List ℕ
beyond_line words pram beyond =
    codes "model " ++ name_of pram ++ codes " " ++ sharing_text beyond.sharing ++ codes " "
    ++ meeting_text words (Some beyond.meeting) ++ codes "\n"
