-- What the steps of a job cost.
use Rattle.std.specs.Prelude.{◌≡◌, ◌⊎◌, ℕ, ◌<◌, ◌≤◌, Bool, List, length, map}
use Rattle.std.specs.Prelude.{sum_by, count_by, Option, is_some, MatchOption}
use Rattle.std.specs.List.{range_with_len, list_any}
use Rattle.pram_job.specs.Job.{JobData}
use Rattle.pram_step.specs.declared.answer.Fault.{Fault}
use Rattle.pram_cost.specs.declared.cost.Cost.{Cost}
use Rattle.pram_cost.specs.declared.meeting.Meetings.{Meetings}
use Rattle.pram_cost.specs.declared.meeting.Sharing.{Sharing}
use Rattle.pram_cost.specs.declared.meeting.Sharing.TheVariants.{SameRead, SameWrite, OtherValue}
use Rattle.pram_cost.specs.declared.work.Work.{Work}
use Rattle.pram_cost.specs.Accesses.{running_in}
use Rattle.pram_machine.specs.Machine.{State}
use Rattle.pram_cost.specs.Meetings.{access_by, IsFirstOrNone}
use Rattle.pram_step.specs.Runs.{state_after, IsReached, IsFault}

-- how many processors run in a state: each executes one instruction in the step
abbrev pub at_work : JobData → State → ℕ
at_work job state = length (running_in job state)

-- whether some processor reads, or writes, a cell in the step
abbrev pub has_access : Sharing → JobData → State → Bool
has_access sharing job state =
    list_any (λ i. is_some (access_by sharing job state i)) (range_with_len 0 job.procs)

-- ---- of the first n steps

-- the states in which they begin
abbrev pub first_states : JobData → ℕ → List State
first_states job n = map (state_after job) (range_with_len 0 n)

-- the instructions that they execute
abbrev pub executed : JobData → ℕ → ℕ
executed job n = sum_by (at_work job) (first_states job n)

-- how many of them have such an access
abbrev pub steps_with : Sharing → JobData → ℕ → ℕ
steps_with sharing job n = count_by (has_access sharing job) (first_states job n)

-- the most processors that run in one of them
pub record IsMost (job : JobData) (n most : ℕ) : Type 0 where
  pub bound : (t : ℕ) → t < n → at_work job (state_after job t) ≤ most
  pub attained : (most ≡ 0)
      ⊎ ((t : ℕ) × (t < n) × (at_work job (state_after job t) ≡ most))

pub record IsWork (job : JobData) (n : ℕ) (work : Work) : Type 0 where
  pub executed_is : work.executed ≡ executed job n
  pub most_is : IsMost job n work.most
  pub reading_is : work.reading ≡ steps_with SameRead job n
  pub writing_is : work.writing ≡ steps_with SameWrite job n

-- the first meeting of each kind
pub record AreFirst (job : JobData) (n : ℕ) (meetings : Meetings) : Type 0 where
  pub same_read : IsFirstOrNone SameRead job n meetings.same_read
  pub same_write : IsFirstOrNone SameWrite job n meetings.same_write
  pub other_value : IsFirstOrNone OtherValue job n meetings.other_value

-- what n steps cost
pub record IsCostOf (job : JobData) (n : ℕ) (cost : Cost) : Type 0 where
  pub steps_are : cost.steps ≡ n
  pub procs_are : cost.procs ≡ job.procs
  pub work_is : IsWork job n cost.work
  pub first_are : AreFirst job n cost.meetings

-- ---- of a whole run

-- It has all steps of the job, or those up to its first conflict, that one counted too.
abbrev pub IsLength : JobData → ℕ → Option Fault → Type 0
IsLength job n conflict =
    MatchOption conflict ((n ≡ job.steps) × IsReached job n)
    (λ fault. (n ≡ fault.step) × IsFault job fault)

-- what the run of a job costs
pub record IsCost (job : JobData) (cost : Cost) : Type 0 where
  pub length_is : IsLength job cost.steps cost.conflict
  pub cost_is : IsCostOf job cost.steps cost
