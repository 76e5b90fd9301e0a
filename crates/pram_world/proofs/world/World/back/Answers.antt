use Rattle.std.proofs.Common.{◌≡◌, Some, slice_get, length, ◌≤◌, rules, refl, sym, ap, ◌∙◌, arith}
use Rattle.std.proofs.lemmas.Option.{slice_get_read}
use Rattle.walkx.specs.Walk.{come_back}
use Rattle.pram_world.specs.declared.event.Event.TheVariants.{Back}
use Rattle.pram_world.specs.Worlds.{WorldData, walks, happens, replaced}
use Rattle.pram_world.specs.Inner.Holding.{world_of}
use Rattle.pram_world.proofs.Bodies.{number_below, back_keeps, back_world, no_body}
use Rattle.pram_world.proofs.world.World.back.Goals as goal

pub invariant_of-self : goal.invariant_of-self
invariant_of-self c =
    let at : slice_get c.self.inside.bodies.items c.args.b ≡ Some c.index.result.now =
    slice_get_read _ _ _ _ (search rules) c.if-b-len.true c.index.ensures in
    let below = number_below _ _ _ _ c.args.b c.index.result.now c.self.invariant at in
    rw c.put.ensures (back_keeps _ _ _ _ c.args.b _ c.returning-worker.result
    c.self.invariant below c.returning-worker.ensures.value
    (c.returning-worker.ensures.serves c.self.inside.job c.self.inside.layout below))

pub returns-then-b-len : goal.returns-then-b-len
returns-then-b-len c =
    let at : slice_get c.self.inside.bodies.items c.args.b ≡ Some c.index.result.now =
    slice_get_read _ _ _ _ (search rules) c.if-b-len.true c.index.ensures in
    rw c.put.ensures (back_world c.self.inside.job c.self.inside.layout
    c.self.inside.words.items c.self.inside.bodies.items c.args.b
    _ c.returning-worker.result c.index.result.now at refl c.returning-worker.ensures.value
    ∙ ap (λ (x : WorldData). happens x (Back c.args.b)) c.self.view_is)

pub returns-else-b-len : goal.returns-else-b-len
returns-else-b-len c =
    let past : length c.self.inside.bodies.items ≤ c.args.b =
    omega (arith, c.self.inside.bodies.ok) in
    let s = world_of c.self.inside.job
    c.self.inside.layout c.self.inside.words.items c.self.inside.bodies.items in
    sym c.self.view_is ∙ ap (replaced s c.args.b (λ n. walks (come_back n)))
    (sym (no_body c.self.inside.bodies.items c.args.b past))
    ∙ ap (λ (x : WorldData). happens x (Back c.args.b)) c.self.view_is
