use Rattle.std.proofs.Common.{List, ◌<◌, sym, subst}
use Rattle.pram_world.specs.declared.world.Runner.{Runner}
use Rattle.pram_world.specs.Inner.Holding.{IsWorld}
use Rattle.pram_world.specs.Worlds.{WorldData}
use Rattle.pram_world.proofs.Bodies.{twin_keeps}
use Rattle.pram_world.proofs.world.World.twin.Goals as goal

pub invariant_of-self-2 : goal.invariant_of-self-2
invariant_of-self-2 c =
    let s = c.self.inside in
    subst (λ (runners : List Runner). IsWorld s.job s.layout s.words.items runners)
    (sym c.in_ok-push.ensures.items)
    (twin_keeps s.job s.layout s.words.items s.bodies.items c.args.w c.start.result c.self.invariant
    (subst (λ (x : WorldData). c.args.w < x.layout.workers) (sym c.self.view_is) c.requires)
    c.start.ensures.value (c.start.ensures.serves s.job s.layout
    (subst (λ (x : WorldData). c.args.w < x.layout.workers) (sym c.self.view_is) c.requires)))
