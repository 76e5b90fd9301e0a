-- What the code tells of a body.
use Rattle.std.specs.Prelude.{length}
use Rattle.walkx.specs.Activities.{activity_of}
use Rattle.pram_world.specs.declared.event.Standing.{Standing}
use Rattle.pram_world.specs.declared.event.Standing.TheVariants as standing
use Rattle.pram_world.specs.Worlds.{Body, walks, stopped}

abbrev pub standing_of : Body → Standing
standing_of (walks walking) =
    standing.Walks walking.number walking.node (activity_of walking.now) (length walking.heard)
standing_of (stopped worker) = standing.Stopped worker
