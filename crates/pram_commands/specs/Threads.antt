-- What the commands come to that run a job on threads.
use Rattle.std.specs.Prelude.{◌≡◌, ◌<◌, ◌≤◌, ◌⊎◌, ℕ, List, Option, None, Some, ⊤, map}
use Rattle.std.specs.Prelude.{slice_index, All, true}
use Rattle.std.specs.List.{repeat}
use Rattle.std.specs.List.Sorted.{IsNonDecreasingBy}
use Rattle.pram_job.specs.Job.{JobData}
use Rattle.pram_step.specs.Runs.{IsReached, state_after}
use Rattle.pram_step.specs.declared.answer.RunAnswer.{RunAnswer}
use Rattle.pram_words.specs.declared.layout.Form.TheVariants.{Wide}
use Rattle.pram_words.specs.Words.{grain_for}
use Rattle.stop_plan.specs.Plan.{PlanData}
use Rattle.pram_board.specs.Seats.{Desk, SeatData, IsOpened}
use Rattle.pram_run.specs.Heard.{HasRunBeside}
use Rattle.pram_run.specs.Printed.{sights_text}
use Rattle.pram_run.specs.Running.{IsUnfinished}
use Rattle.pram_run.specs.Watching.{HasReadBeside, IsWatch}
use Rattle.pram_run.specs.declared.sight.Sight.{Sight}
use Rattle.pardo_job.specs.Compiled.{IsWhole}
use Rattle.pardo_job.specs.Refusals.{most_steps}
use Rattle.pardo_answers.specs.Language.{is_program}
use Rattle.command_data.specs.declared.line.Style.{Style}
use Rattle.naming.specs.CellLists.{AreCellsOf, LacksCell}
use Rattle.pram_commands.specs.Did.{Answering, Command}
use Rattle.pram_commands.specs.Following.{LacksNone, following}
use Rattle.naming.specs.CellNames.{cell_words}
use Rattle.naming.specs.Names.{AreNames, NamingData}
use Rattle.pram_commands.specs.Why.{Explaining}
use Rattle.command_data.specs.Manner.{size_of}
use Rattle.command_data.specs.declared.block.Block.{Block}

-- how many processors a leaf stands for: as the block says, or else as the board chooses
abbrev pub grain_by : Option Block → (procs : ℕ) → ℕ
grain_by (Some block) procs = size_of block
grain_by None procs = grain_for procs

-- a new board for the job and the plan's workers, with blocks of some size, and its first seat
abbrev pub IsNewBoard : JobData → PlanData → Desk × SeatData → Type 0
IsNewBoard job plan made = (grain : ℕ) × IsOpened job (Wide grain) plan.workers made

-- A run of a program to this answer may be one of its job with so many steps: as many as are made
-- at most of any program, of which it needs no more than its own; and the answer is the job's end.
pub record MayBeLonger (text : List ℕ) (job : JobData) (most : ℕ) (answer : RunAnswer)
    : Type 0 where
  pub program : is_program text ≡ true
  pub most_is : most ≡ most_steps job
  pub within : job.steps ≤ most
  pub whole : IsWhole job
  pub ended : IsUnfinished answer → ⊥

-- The seat is the one that a run of workers of the plan came to, from the first seat of a new board
-- of this text's job, or of a longer one; and what it heard there told the answer.
pub record EndsAt (text : List ℕ) (job : JobData) (plan : PlanData) (later : SeatData)
    (answer : RunAnswer) : Type 0 where
  pub most : ℕ
  pub enough : (most ≡ job.steps) ⊎ MayBeLonger text job most answer
  pub made : Desk × SeatData
  pub opened : IsNewBoard (record job { steps = most }) plan made
  pub ran : HasRunBeside made.0.task plan made.1 later answer

-- some run came to the answer
abbrev pub SomeRunEndsIn : List ℕ → JobData → PlanData → RunAnswer → Type 0
SomeRunEndsIn text job plan answer = (later : SeatData) × EndsAt text job plan later answer

-- it prints the answer of a run of the job under the plan in a style
abbrev pub running : Style → ℕ → Command
running style workers = following workers LacksNone ⊥
    (λ job_text job plan. Explaining style (SomeRunEndsIn job_text job plan) job_text job)

-- what the cell holds after the step, which is reached
pub record IsTrueOf (job : JobData) (sight : Sight) : Type 0 where
  pub reached : IsReached job sight.step
  pub value : sight.value ≡ slice_index (state_after job sight.step) sight.cell

-- The sights of a number of rounds through the cells, in order: each sight is true, and the steps
-- never fall.
pub record HasSights (job : JobData) (cells : List ℕ) (rounds : ℕ) (sights : List Sight)
    : Type 0 where
  pub listed : map (λ sight. sight.cell) sights ≡ repeat rounds cells
  pub tells : All (λ sight. IsTrueOf job sight) sights
  pub rises : IsNonDecreasingBy (λ sight. sight.step) sights

-- The seat is the one that such a run came to, with a reader of these cells beside its workers, who
-- saw the sights; and what it heard there told the answer.
pub record WatchEndsAt (job : JobData) (plan : PlanData) (cells : List ℕ) (rounds : ℕ)
    (later : SeatData) (sights : List Sight) (answer : RunAnswer) : Type 0 where
  pub made : Desk × SeatData
  pub opened : IsNewBoard job plan made
  pub ran : HasReadBeside made.0.task plan made.1 later answer
      (λ before. IsWatch made.0.task cells rounds before sights)

-- some run came to the sights and the answer
pub record IsWatchEnd (job : JobData) (plan : PlanData) (cells : List ℕ) (rounds : ℕ)
    (sights : List Sight) (answer : RunAnswer) : Type 0 where
  pub later : SeatData
  pub at_it : WatchEndsAt job plan cells rounds later sights answer

-- A watch came to this answer, and these bytes tell what its reader saw, the cells by a text's
-- names.
pub record TellsSights (names : Option NamingData) (job : JobData) (plan : PlanData)
    (cells : List ℕ) (rounds : ℕ) (answer : RunAnswer) (front : List ℕ) : Type 0 where
  pub sights : List Sight
  pub saw : HasSights job cells rounds sights
  pub ends : IsWatchEnd job plan cells rounds sights answer
  pub text : front ≡ sights_text (cell_words names) sights

-- The bytes are those of a watch of the job's cells that these parts name, and of its answer.
pub record TellsWatch (parts : List (List ℕ)) (rounds : ℕ) (job_text : List ℕ) (job : JobData)
    (plan : PlanData) (text : List ℕ) (answer : Option RunAnswer) : Type 0 where
  pub names : Option NamingData
  pub are_names : AreNames job_text job names
  pub cells : List ℕ
  pub are_cells : AreCellsOf names parts cells
  pub within : All (λ cell. cell < job.cells) cells
  pub shows : Answering (TellsSights names job plan cells rounds) job_text job text answer

-- it prints the sights of a watch of the job under the plan, and then the answer
abbrev pub watching : ℕ → List (List ℕ) → ℕ → Command
watching workers parts rounds =
    following workers (LacksCell parts) ⊤ (TellsWatch parts rounds)
