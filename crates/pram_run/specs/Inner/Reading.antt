-- What a reader has read and put into a sink.
use Rattle.std.specs.Prelude.{◌≡◌, ◌++◌, ℕ, List, Option, Ok, Err, OnOk}
use Rattle.std.specs.Io.KnownBytes.{Appends}
use Rattle.std.specs.List.{repeat}
use Rattle.pram_streams.specs.Transfer.{AppendsBeginning}
use Rattle.stop_plan.specs.Plan.{PlanData}
use Rattle.pram_board.specs.declared.task.Task.{Task}
use Rattle.pram_board.specs.Seats.{SeatData, unites}
use Rattle.pram_run.specs.Obeyed.{AllObeyed}
use Rattle.pram_run.specs.Printed.{CellWords, sight_lines, sights_text}
use Rattle.pram_run.specs.PutReads.{Printing}
use Rattle.pram_run.specs.Watching.{HasRead, IsWatch, cells_seen}
use Rattle.pram_run.specs.declared.sight.Sight.{Sight}

-- The plan's workers obeyed it from the given seat, and a reader beside them made this watch from
-- it; their seats were joined, the reader's last.
pub record IsWatchJoined (task : Task) (plan : PlanData) (cells : List ℕ) (rounds : ℕ)
    (given : SeatData) (sights : List Sight) (later : SeatData) : Type 0 where
  pub seat : SeatData
  pub obeyed : AllObeyed task plan.rows given plan.workers seat
  pub reader : SeatData
  pub watch : IsWatch task cells rounds given sights reader
  pub is : later ≡ unites seat reader

-- Whatever was read before, a round through the cells was read after it.
pub record ReadsRound (task : Task) (round : List ℕ) (sights : List Sight) (before : SeatData)
    (sights' : List Sight) (later : SeatData) : Type 0 where
  pub reads : (front : List Sight) (given : SeatData) →
      HasRead task given (front ++ sights) before → HasRead task given (front ++ sights') later
  pub cells : cells_seen sights' ≡ cells_seen sights ++ round

-- The lines of these sights were put, or a beginning of them; where printing had failed, nothing.
abbrev pub PutAfter : CellWords → Printing → Printing → Option (List ℕ) → Option (List ℕ) →
    List Sight → Type 0
PutAfter words (Ok done) later sink sink' sights =
    OnOk later (Appends sink sink' (sight_lines words sights))
    × AppendsBeginning sink sink' (sight_lines words sights)
PutAfter words (Err fault) later sink sink' sights = (later ≡ Err fault) × (sink' ≡ sink)

-- The first of the sights were put, and the others wait.
pub record PassedSights (words : CellWords) (printed later : Printing)
    (sink sink' : Option (List ℕ)) (sights waiting : List Sight) : Type 0 where
  pub gone : List Sight
  pub parts : sights ≡ gone ++ waiting
  pub put : PutAfter words printed later sink sink' gone

-- What was read in so many rounds, from one seat to a later one: the first sights were put, or a
-- beginning of their text where that failed; the others wait.
pub record HasPut (words : CellWords) (task : Task) (cells : List ℕ) (rounds : ℕ)
    (given later : SeatData) (waiting : List Sight) (sink sink' : Option (List ℕ))
    (printed : Printing) : Type 0 where
  pub gone : List Sight
  pub reads : HasRead task given (gone ++ waiting) later
  pub listed : cells_seen (gone ++ waiting) ≡ repeat rounds cells
  pub ok : OnOk printed (Appends sink sink' (sights_text words gone))
  pub beginning : AppendsBeginning sink sink' (sights_text words gone)
