-- A replay by a random plan, over a job's file or a text.
use Rattle.std.proofs.Common.{◌≡◌, ℕ, List, Option, Some, true, false, refl}
use Rattle.pram_streams.specs.declared.device.Source as a_source
use Rattle.command_data.specs.declared.line.Line.{Line}
use Rattle.naming.specs.Writing.{Writing}
use Rattle.pram_commands.specs.Files.{MayFail}
use Rattle.pram_commands.specs.Inputs.{reading}
use Rattle.pram_commands.specs.Served.{Served}
use Rattle.pram_commands.specs.declared.bytes.Bytes.{Bytes}
use Rattle.pram_commands.specs.declared.sources.Sources.{Sources}
use Rattle.pram_commands.specs.contracts.bytes.BytesSource.TheImpl.{ghosts}
use Rattle.command_answers.specs.Random.{ServesByPlan}

pub planned : {J : Type 0} (of_job : a_source.Ghosts J) (line : Line) (plan : List ℕ)
    (writes : Writing) (status : ℕ) (before after : Sources J Bytes) →
    Served line (reading of_job ghosts before after) writes status →
    ghosts.remaining before.plan ≡ Some plan →
    ServesByPlan (λ bytes. bytes ≡ of_job.remaining before.job) (MayFail of_job) line plan writes
    status
planned of_job line plan writes status before after served is = record {
  reads = reading of_job ghosts before after;
  of_job = refl;
  of_plan = is;
  fails = λ failed. (after.job, failed);
  served = served;
}

-- over bytes that are such
pub given_such : (Is Gives : Option (List ℕ) → Type 0) (May Fails : Type 0) (line : Line)
    (plan : List ℕ) (writes : Writing) (status : ℕ) →
    ((bytes : Option (List ℕ)) → Is bytes → Gives bytes) → (May → Fails) →
    ServesByPlan Is May line plan writes status → ServesByPlan Gives Fails line plan writes status
given_such Is Gives May Fails line plan writes status gives fails serves = record {
  reads = serves.reads;
  of_job = gives serves.reads.job serves.of_job;
  of_plan = serves.of_plan;
  fails = λ failed. fails (serves.fails failed);
  served = serves.served;
}

-- bytes in memory never fail
pub never_fails : {Fails : Type 0} → MayFail ghosts → Fails
never_fails fails = absurd (let e : false ≡ true = fails.1 in cc e)
