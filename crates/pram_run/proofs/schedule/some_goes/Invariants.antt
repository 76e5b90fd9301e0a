use Rattle.std.proofs.Common.{◌≡◌, ℕ, ◌<◌, false}
use Rattle.pram_world.specs.Worlds.{going}
use Rattle.pram_run.proofs.schedule.some_goes.Given as goal

abbrev pub invariant-loop-worker : goal.invariant-loop-worker
invariant-loop-worker l = (b : ℕ) → b < l.worker → going l.world b ≡ false
