use Rattle.std.proofs.Common.{arith}
use Rattle.pram_world.proofs.Bodies.{starts_bodies, starts_serve}
use Rattle.pram_world.proofs.world.start_bodies.Goals as goal

pub loop-w-preserved : goal.loop-w-preserved
loop-w-preserved c = record {
  bodies = starts_bodies _ _ c.start.result c.loop-w.w
      c.loop-w.invariant.bodies c.in_ok-push.ensures.items c.start.ensures.value;
  serve = λ job y most. starts_serve job y _ _ c.start.result (c.loop-w.invariant.serve job y most)
      c.in_ok-push.ensures.items (c.start.ensures.serves job y (omega arith));
}
