-- The line that tells how far a board is.
use Rattle.std.specs.Prelude.{◌≡◌, ◌++◌, ℕ, List, codes, decimal}
use Rattle.pram_board.specs.Seats.{SeatData, Progressed}
use Rattle.pram_board.specs.declared.look.Progress.{Progress}
use Rattle.pram_board.specs.declared.task.Task.{Task}
use Rattle.pram_commands.specs.declared.progress.ProgressLine.{ProgressLine}

-- its text
abbrev pub progress_text : ProgressLine → List ℕ
progress_text line = codes "step " ++ decimal line.step ++ codes " of " ++ decimal line.steps

-- A look at the board found this step, of so many of the job.
pub record TellsProgress (task : Task) (before after : SeatData) (line : ProgressLine)
    : Type 0 where
  pub found : Progress
  pub looked : Progressed task before after found
  pub step : line.step ≡ found.step
  pub steps : line.steps ≡ task.job.steps
