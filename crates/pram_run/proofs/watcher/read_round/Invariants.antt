use Rattle.std.proofs.Common.{◌≡◌, ◌+◌, List, ◌++◌, map, take, vec_items, vec_len, vec_capacity}
use Rattle.pram_board.specs.Seats.{SeatData}
use Rattle.pram_run.specs.Watching.{HasRead}
use Rattle.pram_run.specs.declared.sight.Sight.{Sight}
use Rattle.pram_run.proofs.watcher.read_round.Given as goal

abbrev pub invariant-loop-cell : goal.invariant-loop-cell
invariant-loop-cell g l = record {
  desk : l.seat.desk ≡ l.shared.board.now;
  reads : (front : List Sight) (p : SeatData) →
      HasRead l.shared.board.now.task p (front ++ vec_items l.initial.sights) l.initial.seat →
      HasRead l.shared.board.now.task p (front ++ vec_items l.sights) l.seat;
  listed : map (λ (s : Sight). s.cell) (vec_items l.sights) ≡ map (λ (s : Sight). s.cell)
      (vec_items l.initial.sights) ++ take l.cell-index l.shared.cells.now;
  len : vec_len l.sights ≡ vec_len l.initial.sights + l.cell-index;
  capacity : vec_capacity l.sights ≡ vec_capacity l.initial.sights;
}
