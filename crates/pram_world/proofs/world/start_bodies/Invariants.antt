use Rattle.std.proofs.Common.{◌≡◌, ◌≤◌, map}
use Rattle.std.specs.List.{range_with_len}
use Rattle.pram_job.specs.Job.{JobData}
use Rattle.pram_words.specs.Words.{LayoutData}
use Rattle.walkx.specs.Walk.{started}
use Rattle.pram_world.specs.Inner.Holding.{AllServe, body_of_runner}
use Rattle.pram_world.specs.Worlds.{walks}
use Rattle.pram_world.proofs.world.start_bodies.Given as goal

abbrev pub invariant-loop-w : goal.invariant-loop-w
invariant-loop-w l = record {
  bodies : map body_of_runner l.bodies.items ≡ map (λ w. walks (started w)) (range_with_len 0 l.w);
  serve : (job : JobData) (y : LayoutData) → l.workers ≤ y.workers → AllServe job y l.bodies.items;
}
