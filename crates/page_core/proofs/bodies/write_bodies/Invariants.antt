use Rattle.std.proofs.Common.{◌≡◌, ℕ, ◌<◌, length, slice_get, Some}
use Rattle.page_core.specs.Findings.{IsKeptBehind}
use Rattle.page_core.specs.Scenes.{body_in}
use Rattle.page_core.proofs.bodies.write_bodies.Given as goal

abbrev pub invariant-loop-b : goal.invariant-loop-b
invariant-loop-b l = record {
  bodies : (i : ℕ) → i < l.b → slice_get l.rows i ≡ Some (body_in l.world i);
  behind : IsKeptBehind (length l.world.bodies) l.fn.rows l.rows;
}
