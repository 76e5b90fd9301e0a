-- What was counted of an instruction while the processors are seen one after another.
use Rattle.std.specs.Prelude.{◌≡◌, ℕ, ◌+◌, ◌*◌, ◌<◌, ◌≤◌, ◌==◌, nat_lt, if◌then◌else◌, max}
use Rattle.std.specs.Prelude.{List, count_by, length}
use Rattle.std.specs.List.{range_with_len}
use Rattle.pram_job.specs.Job.{JobData}
use Rattle.pram_machine.specs.Machine.{State, counter}
use Rattle.pram_step.specs.declared.walks.Sight.{Sight}
use Rattle.pram_cost.specs.Profiled.{tally_at}
use Rattle.pram_cost.specs.Profiles.{executed_at, most_at, instruction_steps}
use Rattle.pram_cost.specs.declared.profile.Tallied.{Tallied}

-- so many processors more execute it in a step, and in all that follow it in the same state
abbrev pub tallied_more : ℕ → ℕ → ℕ → Tallied → Tallied
tallied_more step times more row =
    let now = if row.last == step then row.now + more else more in
    record {
      executed = record {
        steps = if row.last == step then row.executed.steps else row.executed.steps + times;
        times = row.executed.times + times * more;
        most = max row.executed.most now;
      };
      last = step;
      now = now;
    }

-- how many of the first n processors stand at the instruction
abbrev pub standing_among : JobData → ℕ → State → ℕ → ℕ
standing_among job index state n =
    count_by (λ i. counter job state i == index) (range_with_len 0 n)

-- So much was counted of it in the steps made, and of the first n processors in those that come
-- next, this many in one state, in which so many of these n stand at it.
pub record IsTallied (job : JobData) (index made times many : ℕ) (row : Tallied) : Type 0 where
  pub steps_are : row.executed.steps
      ≡ instruction_steps job index made + (if nat_lt 0 many then times else 0)
  pub times_are : row.executed.times ≡ executed_at job index made + times * many
  pub most_is : row.executed.most ≡ max (most_at job index made) many
  pub last_none : many ≡ 0 → row.last ≤ made
  pub last_some : 0 < many → (row.last ≡ made + 1) × (row.now ≡ many)

-- so it is for all instructions
pub record AreTallied (sight : Sight) (n : ℕ) (rows : List Tallied) : Type 0 where
  pub count : length rows ≡ length sight.job.now.code
  pub each : (index : ℕ) → index < length sight.job.now.code →
      IsTallied sight.job.now index sight.made sight.times
      (standing_among sight.job.now index sight.state.now n) (tally_at rows index)
