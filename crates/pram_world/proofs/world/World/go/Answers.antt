use Rattle.std.proofs.Common.{◌≡◌, Some, slice_get, rules, ap, ◌∙◌}
use Rattle.std.proofs.lemmas.Option.{slice_get_read}
use Rattle.walkx.specs.Operations.{answer}
use Rattle.walkx.specs.Walk.{told}
use Rattle.pram_world.specs.declared.event.Event.TheVariants.{Go}
use Rattle.pram_world.specs.Worlds.{WorldData, happens, shown}
use Rattle.pram_world.proofs.Bodies.{Stepped, step_world, step_shown, step_keeps}
use Rattle.pram_world.proofs.Bodies.{serves_at, hears_at, still_world, still_shown}
use Rattle.pram_world.proofs.world.World.go.Goals as goal

pub ask-op-requires-clause-serves : goal.ask-op-requires-clause-serves
ask-op-requires-clause-serves c =
    let at : slice_get c.self.inside.bodies.items c.args.b ≡ Some c.index_mut.result.now =
    slice_get_read _ _ _ _ (search rules) c.if-b-len.false c.index_mut.ensures.value in
    serves_at _ _ _ _ c.args.b c.in-Walks.worker c.self.invariant (at ∙ ap Some c.in-Walks.is)

pub tell-requires-clause-serves : goal.tell-requires-clause-serves
tell-requires-clause-serves c =
    let at : slice_get c.self.inside.bodies.items c.args.b ≡ Some c.index_mut.result.now =
    slice_get_read _ _ _ _ (search rules) c.if-b-len.false c.index_mut.ensures.value in
    serves_at _ _ _ _ c.args.b c.in-Walks.worker c.self.invariant (at ∙ ap Some c.in-Walks.is)

pub tell-requires-clause-admitted : goal.tell-requires-clause-admitted
tell-requires-clause-admitted c =
    let at : slice_get c.self.inside.bodies.items c.args.b ≡ Some c.index_mut.result.now =
    slice_get_read _ _ _ _ (search rules) c.if-b-len.false c.index_mut.ensures.value in
    hears_at _ _ _ _ c.args.b c.in-Walks.worker c.heard.result c.self.invariant
    (at ∙ ap Some c.in-Walks.is)
    (c.heard.ensures c.self.inside.words.items c.ask-op.result c.make-effect.ensures.effect
    ∙ ap (answer c.self.inside.words.items) c.ask-op.ensures.asks)

-- what the body did, as one step
made : (c : goal.After-self-in-Walks-1) → Stepped c.self.inside.job c.self.inside.layout
    c.self.inside.words.items c.self.inside.bodies.items c.args.b c.in-Walks.worker
    c.make-effect.result c.make-effect.new.words.items c.tell.new.self
made c =
    let at : slice_get c.self.inside.bodies.items c.args.b ≡ Some c.index_mut.result.now =
    slice_get_read _ _ _ _ (search rules) c.if-b-len.false c.index_mut.ensures.value in
    record {
      op = c.ask-op.result;
      at = at ∙ ap Some c.in-Walks.is;
      asked = c.ask-op.ensures.asks;
      wrote = c.make-effect.ensures.words;
      shows = c.make-effect.ensures.effect;
      became = c.tell.ensures.told
          ∙ ap (told c.self.inside.job c.self.inside.layout c.in-Walks.worker.walking)
          (c.heard.ensures c.self.inside.words.items c.ask-op.result c.make-effect.ensures.effect);
      serves = c.tell.ensures.serves;
    }

pub invariant_of-self-in-Walks : goal.invariant_of-self-in-Walks
invariant_of-self-in-Walks c = step_keeps _ _ _ _ c.args.b c.in-Walks.worker c.make-effect.result _
    c.tell.new.self (made c) c.self.invariant

pub returns-in-Walks-clause-world : goal.returns-in-Walks-clause-world
returns-in-Walks-clause-world c = step_world _ _ _ _ c.args.b c.in-Walks.worker c.make-effect.result
    _ c.tell.new.self (made c) ∙ ap (λ (x : WorldData). happens x (Go c.args.b)) c.self.view_is

pub returns-in-Walks-clause-effect : goal.returns-in-Walks-clause-effect
returns-in-Walks-clause-effect c =
    step_shown _ _ _ _ c.args.b c.in-Walks.worker c.make-effect.result _ c.tell.new.self (made c)
    ∙ ap (λ (x : WorldData). shown x (Go c.args.b)) c.self.view_is

pub returns-in-Stopped-clause-world : goal.returns-in-Stopped-clause-world
returns-in-Stopped-clause-world c =
    let at : slice_get c.self.inside.bodies.items c.args.b ≡ Some c.index_mut.result.now =
    slice_get_read _ _ _ _ (search rules) c.if-b-len.false c.index_mut.ensures.value in
    still_world c.self.inside.job c.self.inside.layout c.self.inside.words.items
    c.self.inside.bodies.items c.args.b c.in-Stopped.field-0 c.index_mut.result.now at
    c.in-Stopped.is ∙ ap (λ (x : WorldData). happens x (Go c.args.b)) c.self.view_is

pub returns-in-Stopped-clause-effect : goal.returns-in-Stopped-clause-effect
returns-in-Stopped-clause-effect c =
    let at : slice_get c.self.inside.bodies.items c.args.b ≡ Some c.index_mut.result.now =
    slice_get_read _ _ _ _ (search rules) c.if-b-len.false c.index_mut.ensures.value in
    still_shown c.self.inside.job c.self.inside.layout c.self.inside.words.items
    c.self.inside.bodies.items c.args.b c.in-Stopped.field-0 c.index_mut.result.now at
    c.in-Stopped.is ∙ ap (λ (x : WorldData). shown x (Go c.args.b)) c.self.view_is
