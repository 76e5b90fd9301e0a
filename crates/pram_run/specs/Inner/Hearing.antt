-- How the answer of a run comes to be heard.
use Rattle.std.specs.Prelude.{◌≡◌, ◌<◌, ℕ, Ok, Err, IfOk}
use Rattle.pram_step.specs.declared.answer.RunAnswer.{RunAnswer}
use Rattle.pram_step.specs.declared.answer.RunAnswer.TheVariants.{Final, Conflict, Unfinished}
use Rattle.lawful_walk.specs.Moments.{Sound}
use Rattle.stop_plan.specs.Plan.{PlanData}
use Rattle.pram_board.specs.declared.task.Task.{Task}
use Rattle.pram_board.specs.Seats.{SeatData, unites}
use Rattle.pram_run.specs.Heard.{Ended, HasRunWith}
use Rattle.pram_run.specs.Inner.Obeying.{EndsOrStops, IsContinued}
use Rattle.walkx.specs.Records.{Record}
use Rattle.pram_run.specs.Obeyed.{AllObeyed, HasLooked, LooksFor}
use Rattle.pram_run.specs.Running.{IsUnfinished, Tells}

-- the end of the job is told
abbrev pub TellsEnd : Ended → Type 0
TellsEnd (Ok (Final cells)) = Unit {0}
TellsEnd (Ok (Conflict fault)) = Unit {0}
TellsEnd (Ok (Unfinished step)) = ⊥
TellsEnd (Err refused) = ⊥

-- the record tells the end of the job
abbrev pub ToldEnd : Task → Record → Type 0
ToldEnd task past = (answer : RunAnswer) × (IsUnfinished answer → ⊥) × Tells task past answer

-- A seat looked at the board, which told it this.
pub record HasTold (task : Task) (before later : SeatData) (answer : RunAnswer) : Type 0 where
  pub looks : LooksFor task before later answer
  pub sound : Sound task.job task.layout later.record_of
  pub tells : Tells task later.record_of answer

-- A number of workers obeyed the plan from the given seat, and each ended or is stopped; their
-- seats and then the looker's were joined to it. What all of them heard is sound.
pub record IsJoined (task : Task) (plan : PlanData) (given looker : SeatData) (count : ℕ)
    (later : SeatData) : Type 0 where
  pub seat : SeatData
  pub obeyed : AllObeyed task plan.rows given count seat
  pub ends : (worker : ℕ) → worker < count → EndsOrStops plan.rows worker later
  pub is : later ≡ unites seat looker
  pub goes_on : IsContinued given later
  pub sound : Sound task.job task.layout later.record_of

-- A number of workers obeyed the plan from the given seat, while another seat looked on from this
-- one; they came to an answer, which was given if memory was.
pub record RunHasEnded (task : Task) (plan : PlanData) (given : SeatData) (count : ℕ)
    (before later : SeatData) (ended : Ended) : Type 0 where
  pub answer : RunAnswer
  pub ran : HasRunWith (λ started looker. (started ≡ count) × HasLooked before looker)
      task plan given later answer
  pub given_if : IfOk ended (λ found. found ≡ answer)
