use Rattle.std.proofs.Common.{◌≡◌, ◌≤◌, ◌+◌, length, vec_items, vec_len, vec_capacity}
use Rattle.std.specs.Prelude.{◌↔◌, IsErrOf, IsTrue}
use Rattle.pram_streams.specs.declared.print.PrintFault.TheVariants.{Device}
use Rattle.pram_run.specs.Inner.Reading.{HasPut}
use Rattle.pram_run.proofs.observation.print_reads.Given as goal

abbrev pub invariant-loop : goal.invariant-loop
invariant-loop g l = record {
  desk : l.seat.desk ≡ l.shared.board.now;
  few : vec_len l.sights ≤ l.shared.piece;
  room : l.shared.piece + length l.shared.cells.now ≤ vec_capacity l.sights;
  put : HasPut (g.C.CellNames.words l.names) l.shared.board.now.task l.shared.cells.now l.counter l.fn.seat
      l.seat (vec_items l.sights) (g.W.Sink.taken l.fn.sink) (g.W.Sink.taken l.sink) l.printed;
  failed : IsTrue (g.W.Sink.has_failed l.sink) ↔ IsErrOf l.printed Device;
}
