-- What becomes of the processors in the steps of a job.
use Rattle.std.specs.Prelude.{◌≡◌, ℕ, ◌+◌, ◌<◌, ◌≤◌, count_by, Option, MatchOption}
use Rattle.std.specs.List.{range_with_len}
use Rattle.pram_job.specs.Job.{JobData}
use Rattle.pram_machine.specs.Instructions.{request_in}
use Rattle.pram_machine.specs.Machine.{State, counter, halted, out_of_range, IsStopped}
use Rattle.pram_step.specs.Running.{is_running, IsStop}
use Rattle.pram_step.specs.Runs.{AgreesAfter, IsReached, state_after}
use Rattle.pram_rows.specs.declared.fates.End.{End}
use Rattle.pram_rows.specs.declared.fates.End.TheVariants.{Running, Stopped}
use Rattle.pram_rows.specs.declared.fates.Fates.{Fates}
use Rattle.pram_rows.specs.declared.fates.Lost.{Lost}

-- ---- where they are after some steps

-- the least processor that runs
pub record IsFirstRunning (job : JobData) (state : State) (i : ℕ) : Type 0 where
  pub within : i < job.procs
  pub runs : counter job state i < halted job
  pub least : (j : ℕ) → j < i → IsStopped job state j

-- How many run, the least of them, and the instruction that it stands at.
pub record SomeRun (job : JobData) (state : State) (count first index : ℕ) : Type 0 where
  pub count_is : count ≡ count_by (is_running job state) (range_with_len 0 job.procs)
  pub first_is : IsFirstRunning job state first
  pub index_is : index ≡ counter job state first

-- How they are after n steps: some run, or all have stopped after so many of them, and not after
-- fewer.
abbrev pub IsEnd : JobData → ℕ → End → Type 0
IsEnd job n (Running count first index) = SomeRun job (state_after job n) count first index
IsEnd job n (Stopped step) = (step ≤ n) × IsStop job step

-- ---- who names a cell that there is not

-- In the step after a state processor i executes an instruction by which it names a cell that there
-- is not: its next counter says so.
pub record NamesNone (job : JobData) (state : State) (i : ℕ) : Type 0 where
  pub within : i < job.procs
  pub runs : counter job state i < halted job
  pub names_none : (request_in job state i).next ≡ out_of_range job

-- none does
abbrev pub AllName : JobData → State → Type 0
AllName job state = (i : ℕ) → NamesNone job state i → ⊥

-- the least one that does
pub record IsFirstNaming (job : JobData) (state : State) (i : ℕ) : Type 0 where
  pub names_none : NamesNone job state i
  pub least : (j : ℕ) → NamesNone job state j → i ≤ j

-- A processor that names a cell that there is not is *lost*. The first of n steps in which one is,
-- the least one that is lost in it, and the instruction.
pub record IsFirstLost (job : JobData) (n : ℕ) (lost : Lost) : Type 0 where
  pub before : ℕ
  pub within : before < n
  pub step_is : lost.step ≡ before + 1
  pub first_is : IsFirstNaming job (state_after job before) lost.processor
  pub index_is : lost.index ≡ counter job (state_after job before) lost.processor
  pub none_before : (t : ℕ) → t < before → AllName job (state_after job t)

-- A processor is lost in one of n steps: in this one, by this instruction.
pub record IsLostIn (job : JobData) (n : ℕ) (lost : Lost) : Type 0 where
  pub before : ℕ
  pub within : before < n
  pub step_is : lost.step ≡ before + 1
  pub names_none : NamesNone job (state_after job before) lost.processor
  pub index_is : lost.index ≡ counter job (state_after job before) lost.processor

-- in n steps none does, or this is the first one
abbrev pub IsFirstLostOrNone : JobData → ℕ → Option Lost → Type 0
IsFirstLostOrNone job n lost =
    MatchOption lost ((t : ℕ) → t < n → AllName job (state_after job t)) (IsFirstLost job n)

-- ---- both

-- Of n steps so many are made: all, or those before the first that is against the rule.
pub record AreMade (job : JobData) (n made : ℕ) : Type 0 where
  pub most : made ≤ n
  pub reached : IsReached job made
  pub against : made < n → AgreesAfter job made → ⊥

-- What becomes of the processors in n steps: how they are after them, if all of them are made, and
-- who was the first to name a cell that there is not.
pub record AreFates (job : JobData) (n : ℕ) (fates : Fates) : Type 0 where
  pub made : ℕ
  pub are_made : AreMade job n made
  pub end_is : MatchOption fates.end (made < n) (λ end. (made ≡ n) × IsEnd job n end)
  pub lost_is : IsFirstLostOrNone job made fates.lost
