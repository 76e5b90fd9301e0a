-- What a line that is served from files says of them.
use Rattle.std.specs.Prelude.{◌≡◌, ◌||◌, ℕ, List, [], Option, None, Some, IsTrue}
use Rattle.pram_streams.specs.declared.device.Source as a_source
use Rattle.naming.specs.Writing.{Writing}
use Rattle.pram_commands.specs.Inputs.{InputsRead}
use Rattle.command_data.specs.Line.{text_now}
use Rattle.pram_commands.specs.Served.{Served}
use Rattle.command_data.specs.declared.line.Line.{Line}

-- some source of this type has failed: of bytes in memory none has
abbrev pub MayFail : {S : Type 0} → a_source.Ghosts S → Type 0
MayFail {S} of_source = (source : S) × IsTrue (of_source.has_failed source)

-- These bytes may be those of the plan's file, or there are none where no file is named.
abbrev pub ArePlanBytes : (List ℕ → Option (List ℕ) → Type 0) → Option (List ℕ) → Option (List ℕ) →
    Type 0
ArePlanBytes Holds None bytes = bytes ≡ Some []
ArePlanBytes Holds (Some name) bytes = Holds name bytes

-- The line was served, with this status: its job was this text, and its plan came from the file
-- that it names for that, or there was none.
pub record ServesText (text : List ℕ) (Holds : List ℕ → Option (List ℕ) → Type 0) (Fails : Type 0)
    (line : Line) (writes : Writing) (status : ℕ) : Type 0 where
  pub reads : InputsRead
  pub of_job : reads.job ≡ Some text
  pub of_plan : ArePlanBytes Holds (text_now line.plan) reads.plan
  pub fails : IsTrue reads.plan_failed → Fails
  pub served : Served line reads writes status

-- The line was served, with this status: its job came from the file that it names for it, its plan
-- from the one that it names for that, or there was none. Holds says which bytes the file of a name
-- may give, and Fails whether a file may fail.
pub record ServesFiles (Holds : List ℕ → Option (List ℕ) → Type 0) (Fails : Type 0) (line : Line)
    (writes : Writing) (status : ℕ) : Type 0 where
  pub reads : InputsRead
  pub of_job : Holds line.file.now reads.job
  pub of_plan : ArePlanBytes Holds (text_now line.plan) reads.plan
  pub fails : IsTrue (reads.job_failed || reads.plan_failed) → Fails
  pub served : Served line reads writes status
