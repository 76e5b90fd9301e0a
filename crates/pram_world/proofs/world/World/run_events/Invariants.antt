use Rattle.std.proofs.Common.{◌≡◌, take}
use Rattle.pram_world.specs.Worlds.{run}
use Rattle.pram_world.proofs.world.World.run_events.Given as goal

abbrev pub invariant-loop-event : goal.invariant-loop-event
invariant-loop-event l = l.self ≡ run l.initial.self (take l.event-index l.events)
