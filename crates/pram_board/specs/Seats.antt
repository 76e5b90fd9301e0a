-- What contracts see of a board and of a seat, and what a look at the board tells.
use Rattle.std.specs.Prelude.{◌≡◌, ◌≢◌, ◌≤◌, ℕ, ◌==◌, if◌then◌else◌, List, length, Some, None, refl}
use Rattle.std.specs.Coded.{Coded, code_by, coded×}
use Rattle.std.specs.List.{AllByRecursion}
use Rattle.atomic_table.specs.Seated.{TableId, table_id_coded}
use Rattle.pram_job.specs.Job.{JobData}
use Rattle.pram_words.specs.declared.layout.Form.{Form}
use Rattle.pram_words.specs.declared.words.Word.TheVariants.{Conflict, Node}
use Rattle.pram_words.specs.Words.{LayoutData, number_of, layout_of}
use Rattle.walkx.specs.declared.operation.Op.{Op}
use Rattle.walkx.specs.declared.operation.Op.TheVariants.{Load}
use Rattle.walkx.specs.declared.operation.Reading.{Reading}
use Rattle.walkx.specs.declared.operation.Reading.TheVariants.{At}
use Rattle.walkx.specs.Reads.{step_seen, reader_script}
use Rattle.walkx.specs.Records.{Record, empty, after, both, Has, Knows}
use Rattle.walkx.specs.Codes.{coded_record}
use Rattle.walkx.specs.Scripts.{ends, rest, heard_in}
use Rattle.walkx.specs.Walk.{Walking}
use Rattle.lawful_walk.specs.Moments.{afters}
use Rattle.lawful_walk.specs.Seen.{Heard, KnowsStep}
use Rattle.lawful_walk.specs.Walks.{IsLawfulRead, ProgressWell}
use Rattle.pram_board.specs.declared.look.Progress.{Progress}
use Rattle.pram_board.specs.declared.task.Task.{Task}
use Rattle.pram_board.specs.Codes.{coded_task}

-- which board it is, and its task
pub record Desk : Type 0 where
  pub id : TableId
  pub task : Task

abbrev pub coded_desk : Coded Desk
coded_desk =
    code_by (TableId × Task) (coded× table_id_coded coded_task) (λ desk. (desk.id, desk.task))
    (λ parts. record { id = parts.0; task = parts.1 }) (λ _. refl)

-- a seat of a board, with the record of its steps
pub record SeatData : Type 0 where
  pub desk : Desk
  pub record_of : Record

abbrev pub coded_seat : Coded SeatData
coded_seat =
    code_by (Desk × Record) (coded× coded_desk coded_record)
    (λ seat. (seat.desk, seat.record_of))
    (λ parts. record { desk = parts.0; record_of = parts.1 }) (λ _. refl)

-- a new board, with a seat of it that has seen nothing
abbrev pub IsOpened : JobData → Form → ℕ → Desk × SeatData → Type 0
IsOpened job form workers made =
    (made.0.task.job ≡ job) × (made.0.task.layout ≡ layout_of job form workers)
    × (made.1 ≡ record { desk = made.0; record_of = empty })

-- the seat with one more step, and with more steps, the newest first
abbrev pub hears : SeatData → Op → ℕ → SeatData
hears seat op found = record { desk = seat.desk; record_of = after seat.record_of op found }

abbrev pub hears_all : SeatData → List (Op × ℕ) → SeatData
hears_all seat steps = record { desk = seat.desk; record_of = afters seat.record_of steps }

-- a load, and a seat that made this many loads more than an earlier one
abbrev pub IsLoad : Op → Type 0
IsLoad (Load word) = Unit {0}
IsLoad _ = ⊥

pub record HasLoaded (loaded : ℕ) (before later : SeatData) : Type 0 where
  pub steps : List (Op × ℕ)
  pub is : later ≡ hears_all before steps
  pub loads : AllByRecursion (λ (step : Op × ℕ). IsLoad step.0) steps
  pub count : length steps ≡ loaded

-- the seat that has seen what two had seen
abbrev pub unites : SeatData → SeatData → SeatData
unites first second =
    record { desk = first.desk; record_of = both first.record_of second.record_of }

-- the later record has what the earlier one had
abbrev pub Remembers : Record → Record → Type 0
Remembers before later = (steps : List (Op × ℕ)) → Has before steps → Has later steps

-- the later record knows each worker that the earlier one knew
abbrev pub StillKnows : Task → Record → Record → Type 0
StillKnows task before later = (walking : Walking) →
    Knows task.job task.layout before walking → Knows task.job task.layout later walking

-- a record that remembers another one knows each worker that this one knew
abbrev pub WorkersStayKnown : Type 0
WorkersStayKnown =
    (task : Task) (before later : Record) → Remembers before later → StillKnows task before later

-- the seat later: it is of this board, and remembers what it had heard
pub record IsLater (board : Desk) (before later : SeatData) : Type 0 where
  pub desk : later.desk ≡ board
  pub keeps : (steps : List (Op × ℕ)) → Has before.record_of steps → Has later.record_of steps

-- the record has seen that this step is finished
pub record HasSeen (layout : LayoutData) (known : Record) (step : ℕ) : Type 0 where
  pub knows : KnowsStep layout known step

-- the record heard word 0 as another value than 0
pub record KnowsConflict (layout : LayoutData) (known : Record) : Type 0 where
  pub step : ℕ
  pub some : step ≢ 0
  pub heard : Heard layout known Conflict step

-- ---- progress

-- a load of the root and then one of word 0, and what they show
pub record Progressed (task : Task) (before later : SeatData) (progress : Progress) : Type 0 where
  pub root : ℕ
  pub named : ℕ
  pub is : later ≡ hears (hears before (Load (number_of task.layout (Node 1))) root)
      (Load (number_of task.layout Conflict)) named
  pub step : progress.step ≡ step_seen root named
  pub conflict : progress.conflict ≡ (if named == 0 then None else Some named)
  pub well : ProgressWell task.job task.layout before.record_of later.record_of progress.step named

-- ---- reads

abbrev pub IsReading : Task → Record → Record → ℕ → Reading → Type 0
IsReading task before later cell (At step value) =
    IsLawfulRead task.job task.layout before later cell step value

-- the loads of a reader of the cell, at most five, what it then answers, and that this is a lawful
-- read
pub record WasRead (task : Task) (before later : SeatData) (cell : ℕ)
    (reading : Reading) : Type 0 where
  pub answers : List ℕ
  pub is : later ≡ hears_all before (heard_in (reader_script task.layout cell) answers)
  pub over : rest (reader_script task.layout cell) answers ≡ ends reading
  pub few : length (heard_in (reader_script task.layout cell) answers) ≤ 5
  pub lawful : IsReading task before.record_of later.record_of cell reading
