use Rattle.std.proofs.Common.{drop}
use Rattle.pram_board.specs.Seats.{SeatData}
use Rattle.pram_board.specs.Worked.{Works}
use Rattle.pram_run.specs.Inner.Obeying.{IsContinued}
use Rattle.pram_run.specs.Obeyed.{Obeys, ObeysAnew}
use Rattle.pram_run.proofs.runner.obey_rows.Given as goal

-- what comes of the rest of the rows comes of all of them
abbrev pub invariant-loop-row : goal.invariant-loop-row
invariant-loop-row g l = record {
  goes_on : IsContinued l.fn.seat l.seat;
  works : Works l.shared.board.now l.seat l.worker;
  obeys : (q : SeatData) →
      Obeys l.shared.board.now.task l.number (drop l.row-index l.rows) l.seat l.worker.walking q →
      ObeysAnew l.shared.board.now.task l.number l.rows l.fn.seat q;
}
