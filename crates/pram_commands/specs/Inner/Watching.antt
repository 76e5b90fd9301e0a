-- What comes of a watch whose reads are printed as they are made.
use Rattle.std.specs.Prelude.{◌≡◌, ℕ, List, Option, Ok, Err, OnOk}
use Rattle.pram_job.specs.Job.{JobData}
use Rattle.stop_plan.specs.Plan.{PlanData}
use Rattle.pram_board.specs.declared.task.Task.{Task}
use Rattle.pram_board.specs.Seats.{Desk, SeatData}
use Rattle.pram_run.specs.Heard.{Ended}
use Rattle.pram_run.specs.PutReads.{Printing}
use Rattle.pram_run.specs.Watching.{HasWatchedWith, ReadsAndHears}
use Rattle.naming.specs.Writing.{Writing}
use Rattle.pram_commands.specs.Inner.Hearing.{HasPrinted}
use Rattle.naming.specs.Names.{NamingData}
use Rattle.pram_commands.specs.Threads.{IsNewBoard}

-- What reading comes to, of a task, cells and rounds, from a seat to a later one.
abbrev pub CellReading : Type 0 → Type 1
CellReading P = Task → List ℕ → ℕ → SeatData → SeatData → P → Type 0

-- What hearing how a run ended comes to.
abbrev pub Hearing : Type 0 → Type 0 → Type 1
Hearing P H = P → Ended → H → Type 0

-- A reader heard that the run is out of memory, and did not read.
abbrev pub HasHeardAlone : {P H : Type 0} → Hearing P H → P → Ended × H → Type 0
HasHeardAlone Hears reader ended = OnOk ended.0 ⊥ × Hears reader ended.0 ended.1

-- A watch from this seat of the board: its reader read, and heard that it ended so.
pub record HasWatchedOn {P H : Type 0} (Reads : CellReading P) (Hears : Hearing P H) (desk : Desk)
    (plan : PlanData) (cells : List ℕ) (rounds : ℕ) (given : SeatData) (ended : Ended × H)
    : Type 0 where
  pub later : SeatData
  pub watched : HasWatchedWith desk.task plan given later
      (ReadsAndHears (Reads desk.task cells rounds) Hears ended.0 ended.1) ended.0

-- A watch on a new board of the job: its reader read, and heard how it ended.
pub record IsWatchedBy {P H : Type 0} (Reads : CellReading P) (Hears : Hearing P H) (job : JobData)
    (plan : PlanData) (cells : List ℕ) (rounds : ℕ) (ended : Ended × H) : Type 0 where
  pub made : Desk × SeatData
  pub opened : IsNewBoard job plan made
  pub on : HasWatchedOn Reads Hears made.0 plan cells rounds made.1 ended

-- what printing comes to after reads that were printed so
abbrev pub HasPrintedAfter : Printing → Writing → Option NamingData → ℕ → Ended → Printing → Type 0
HasPrintedAfter (Ok done) writes names steps ended put = HasPrinted writes names steps ended put
HasPrintedAfter (Err fault) writes names steps ended put = (put ≡ Err fault) × writes.Unwritten
