-- A line that was served from sources was served from the files that they are.
use Rattle.std.proofs.Common.{◌≡◌, ◌⊎◌, ℕ, Bool, true, false, List, [], Option, None, Some, IsTrue}
use Rattle.std.proofs.Common.{refl, inl, inr}
use Rattle.std.specs.Option.{option_map_or}
use Rattle.std.specs.Prelude.{◌||◌}
use Rattle.pram_streams.specs.declared.device.Source as a_source
use Rattle.command_data.specs.Line.{text_now}
use Rattle.command_data.specs.declared.line.Line.{Line}
use Rattle.naming.specs.Writing.{Writing}
use Rattle.pram_commands.specs.Files.{ArePlanBytes, MayFail, ServesFiles, ServesText}
use Rattle.pram_commands.specs.Inputs.{reading}
use Rattle.pram_commands.specs.Served.{Served}
use Rattle.pram_commands.specs.declared.files.PlanFile.{PlanFile}
use Rattle.pram_commands.specs.declared.sources.Sources.{Sources}

either : (a b : Bool) → IsTrue (a || b) → IsTrue a ⊎ IsTrue b
either true b is = inl refl
either false b is = inr is

-- a file that there may be has failed, so there is one
one_has : {S : Type 0} (failed : S → Bool) (file : Option S) →
    IsTrue (option_map_or failed file false) → (source : S) × IsTrue (failed source)
one_has failed None is = absurd (let e : false ≡ true = is in cc e)
one_has failed (Some file) is = (file, is)

-- what a source is that is a file which there may be
abbrev maybe : {S : Type 0} → a_source.Ghosts S → a_source.Ghosts (PlanFile S)
maybe of_file = record {
  has_failed = λ x. option_map_or of_file.has_failed x.file false;
  remaining = λ x. option_map_or of_file.remaining x.file (Some []);
}

pub serves : {S : Type 0} (Holds : List ℕ → Option (List ℕ) → Type 0)
    (of_file : a_source.Ghosts S) (line : Line) (writes : Writing) (status : ℕ)
    (before after : Sources S (PlanFile S)) →
    Served line (reading of_file (maybe of_file) before after) writes status →
    Holds line.file.now (of_file.remaining before.job) →
    ArePlanBytes Holds (text_now line.plan)
    (option_map_or of_file.remaining before.plan.file (Some [])) →
    ServesFiles Holds (MayFail of_file) line writes status
serves Holds of_file line writes status before after served job plan = record {
  reads = reading of_file (maybe of_file) before after;
  of_job = job;
  of_plan = plan;
  fails = λ failed. elim (either (of_file.has_failed after.job)
      (option_map_or of_file.has_failed after.plan.file false) failed) [
        | inl of_job ↦ (after.job, of_job)
        | inr has ↦ one_has of_file.has_failed after.plan.file has
      ];
  served = served;
}

-- so was one that was served from a text, and a plan that is a file
pub serves_text : {J S : Type 0} (Holds : List ℕ → Option (List ℕ) → Type 0)
    (of_job : a_source.Ghosts J) (of_file : a_source.Ghosts S) (text : List ℕ) (line : Line)
    (writes : Writing) (status : ℕ) (before after : Sources J (PlanFile S)) →
    Served line (reading of_job (maybe of_file) before after) writes status →
    of_job.remaining before.job ≡ Some text →
    ArePlanBytes Holds (text_now line.plan)
    (option_map_or of_file.remaining before.plan.file (Some [])) →
    ServesText text Holds (MayFail of_file) line writes status
serves_text Holds of_job of_file text line writes status before after served job plan = record {
  reads = reading of_job (maybe of_file) before after;
  of_job = job;
  of_plan = plan;
  fails = λ failed. one_has of_file.has_failed after.plan.file failed;
  served = served;
}
