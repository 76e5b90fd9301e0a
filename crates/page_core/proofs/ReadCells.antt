-- What is told of the reads of a board is found of the text and the events.
use Rattle.std.proofs.Common.{ℕ, List}
use Rattle.pram_world.specs.Worlds.{WorldData}
use Rattle.page_core.specs.declared.board.Event.{Event}
use Rattle.page_core.specs.declared.finding.Finding.{Finding}
use Rattle.page_core.specs.declared.finding.Finding.TheVariants.{Done, Conflict, Unfinished}
use Rattle.page_core.specs.declared.finding.Finding.TheVariants.{NoRoom, NoStep, TooFar}
use Rattle.page_core.specs.declared.finding.Finding.TheVariants.{BadWorkers, BadEvent, Refused}
use Rattle.page_core.specs.declared.reads.ReadRow.{ReadRow}
use Rattle.page_core.specs.Answers.{AreReadsFound, AreReadsTold}
use Rattle.page_core.specs.Events.{IsBoardAfter}
use Rattle.page_core.proofs.Playing.{reads_text}

pub reads_found : (text : List ℕ) (workers : ℕ) (events : List Event) (s : WorldData)
    (old rows : List ReadRow) (f : Finding) → IsBoardAfter text workers events s →
    AreReadsTold s old rows f → AreReadsFound text workers events old rows f
reads_found text workers events s old rows (Done step count) board told =
    reads_text text workers events s step count old rows board told.0 told.1 told.2
reads_found text workers events s old rows (NoRoom needed) board told = (s, board, told)
reads_found text workers events s old rows (Conflict fault count) board told = absurd told
reads_found text workers events s old rows (Unfinished step) board told = absurd told
reads_found text workers events s old rows NoStep board told = absurd told
reads_found text workers events s old rows TooFar board told = absurd told
reads_found text workers events s old rows BadWorkers board told = absurd told
reads_found text workers events s old rows (BadEvent number) board told = absurd told
reads_found text workers events s old rows (Refused refusal) board told = absurd told
