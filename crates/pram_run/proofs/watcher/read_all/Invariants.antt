use Rattle.std.proofs.Common.{◌≡◌, ◌*◌, map, length, vec_items, vec_len, vec_capacity}
use Rattle.std.specs.List.{repeat}
use Rattle.pram_run.specs.Watching.{HasRead}
use Rattle.pram_run.specs.declared.sight.Sight.{Sight}
use Rattle.pram_run.proofs.watcher.read_all.Given as goal

abbrev pub invariant-loop : goal.invariant-loop
invariant-loop g l = record {
  desk : l.seat.desk ≡ l.shared.board.now;
  reads : HasRead l.shared.board.now.task l.fn.seat (vec_items l.sights) l.seat;
  listed : map (λ (s : Sight). s.cell) (vec_items l.sights) ≡ repeat l.counter l.shared.cells.now;
  len : vec_len l.sights ≡ l.counter * length l.shared.cells.now;
  capacity : vec_capacity l.sights ≡ vec_capacity l.initial.sights;
}
