-- What a watch puts into a sink while it reads.
use Rattle.std.specs.Prelude.{ℕ, List, Option, Result, OnOk}
use Rattle.std.specs.Io.KnownBytes.{Appends}
use Rattle.pram_streams.specs.Transfer.{AppendsBeginning}
use Rattle.pram_streams.specs.declared.print.PrintFault.{PrintFault}
use Rattle.pram_board.specs.declared.task.Task.{Task}
use Rattle.pram_board.specs.Seats.{SeatData}
use Rattle.pram_run.specs.Printed.{CellWords, sights_text}
use Rattle.pram_run.specs.Watching.{IsWatch}
use Rattle.pram_run.specs.declared.shared.Shared.{Shared}
use Rattle.pram_run.specs.declared.sight.Sight.{Sight}

-- how printing went
abbrev pub Printing : Type 0
Printing = Result (Unit {0}) PrintFault

-- A watch whose sights were put into a sink, their cells told so, or a beginning of their text
-- where that failed.
pub record PutWatch (words : CellWords) (task : Task) (cells : List ℕ) (rounds : ℕ)
    (given later : SeatData) (sink sink' : Option (List ℕ)) (printed : Printing) : Type 0 where
  pub sights : List Sight
  pub watch : IsWatch task cells rounds given sights later
  pub ok : OnOk printed (Appends sink sink' (sights_text words sights))
  pub beginning : AppendsBeginning sink sink' (sights_text words sights)

-- the sights of the reader of a run were put into a sink, or a beginning of their text
abbrev pub PutReads : {G : Type 0} → CellWords → Shared G → SeatData → SeatData
    → Option (List ℕ) → Option (List ℕ) → Printing → Type 0
PutReads words seen = PutWatch words seen.board.now.task seen.cells.now seen.rounds
