-- What was counted of how often each instruction of a job is executed.
use Rattle.std.specs.Prelude.{◌≡◌, ℕ, ◌<◌, ◌≤◌, List, length, slice_index_or}
use Rattle.pram_job.specs.Job.{JobData}
use Rattle.pram_cost.specs.declared.profile.Executed.{Executed}
use Rattle.pram_cost.specs.declared.profile.Tallied.{Tallied}
use Rattle.pram_cost.specs.Profiles.{executed_at, most_at, instruction_steps}

-- these are the numbers of an instruction in the first n steps
pub record IsExecuted (job : JobData) (index n : ℕ) (executed : Executed) : Type 0 where
  pub steps_are : executed.steps ≡ instruction_steps job index n
  pub times_are : executed.times ≡ executed_at job index n
  pub most_is : executed.most ≡ most_at job index n

-- what was counted of an instruction, as code reads it
abbrev pub tally_at : List Tallied → ℕ → Tallied
tally_at rows index = slice_index_or rows index (record {
  executed = record { steps = 0; times = 0; most = 0 };
  last = 0;
  now = 0;
})

-- n steps were counted, for each instruction
pub record HasProfiled (job : JobData) (n : ℕ) (rows : List Tallied) : Type 0 where
  pub count : length rows ≡ length job.code
  pub each : (index : ℕ) → index < length job.code → IsExecuted job index n
      (tally_at rows index).executed
  pub last : (index : ℕ) → index < length job.code → (tally_at rows index).last ≤ n
