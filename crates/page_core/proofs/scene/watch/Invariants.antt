use Rattle.std.proofs.Common.{◌≡◌, ◌-◌, length, take}
use Rattle.pram_world.specs.Runs.{Run}
use Rattle.page_core.specs.Events.{IsRunFrom}
use Rattle.page_core.specs.Findings.{IsKeptBehind}
use Rattle.page_core.proofs.Playing.{ShownTo}
use Rattle.page_core.proofs.scene.watch.Given as goal

abbrev pub invariant-loop-number : goal.invariant-loop-number
invariant-loop-number l = record {
  run : (r : Run) → r.world ≡ l.fn.world → IsRunFrom r (take l.number l.events) l.world;
  shown : (r : Run) → r.world ≡ l.fn.world → ShownTo l.number r l.events l.from l.rows;
  rows : IsKeptBehind (length l.events - l.from) l.fn.rows l.rows;
}
