use Rattle.std.proofs.Common.{◌≡◌, Some, slice_get, length, ◌≤◌, ◌<◌}
use Rattle.std.proofs.Common.{rules, sym, ap, ◌∙◌, subst, arith}
use Rattle.std.proofs.lemmas.Option.{slice_get_read}
use Rattle.pram_world.specs.declared.event.Event.TheVariants.{Stop}
use Rattle.pram_world.specs.Worlds.{WorldData, stopped, happens, replaced}
use Rattle.pram_world.specs.Inner.Holding.{world_of}
use Rattle.pram_world.proofs.Bodies.{number_below, stop_keeps, stop_world, no_body}
use Rattle.pram_world.proofs.world.World.stop.Goals as goal

pub invariant_of-self : goal.invariant_of-self
invariant_of-self c =
    let at : slice_get c.self.inside.bodies.items c.args.b ≡ Some c.index.result.now =
    slice_get_read _ _ _ _ (search rules) c.if-b-len.true c.index.ensures in
    let y = c.self.inside.layout in
    rw c.put.ensures (stop_keeps _ _ _ _ c.args.b c.number-number.result c.self.invariant
    (subst (λ n. n < y.workers) (sym c.number-number.ensures)
    (number_below _ _ _ _ c.args.b c.index.result.now c.self.invariant at)))

pub returns-then-b-len : goal.returns-then-b-len
returns-then-b-len c =
    let at : slice_get c.self.inside.bodies.items c.args.b ≡ Some c.index.result.now =
    slice_get_read _ _ _ _ (search rules) c.if-b-len.true c.index.ensures in
    rw c.put.ensures (stop_world c.self.inside.job c.self.inside.layout c.self.inside.words.items
    c.self.inside.bodies.items c.args.b c.number-number.result c.index.result.now at
    c.number-number.ensures ∙ ap (λ (x : WorldData). happens x (Stop c.args.b)) c.self.view_is)

pub returns-else-b-len : goal.returns-else-b-len
returns-else-b-len c =
    let past : length c.self.inside.bodies.items ≤ c.args.b =
    omega (arith, c.self.inside.bodies.ok) in
    let s = world_of c.self.inside.job
    c.self.inside.layout c.self.inside.words.items c.self.inside.bodies.items in
    sym c.self.view_is
    ∙ ap (replaced s c.args.b stopped) (sym (no_body c.self.inside.bodies.items c.args.b past))
    ∙ ap (λ (x : WorldData). happens x (Stop c.args.b)) c.self.view_is
