use Rattle.std.proofs.Common.{take, get_or, subst, sym, ◌∙◌, ap}
use Rattle.std.proofs.lemmas.List.{take_more}
use Rattle.pram_world.specs.declared.event.Event.TheVariants.{Go}
use Rattle.pram_world.specs.Worlds.{WorldData, KeepsBoard, run, happens}
use Rattle.pram_world.proofs.Counting.{run_board}
use Rattle.pram_world.proofs.Keeping.{run_holds, run_more}
use Rattle.pram_world.proofs.world.World.run_events.Goals as goal

pub loop-event-preserved : goal.loop-event-preserved
loop-event-preserved c =
    let es = c.args.events.now in
    let i = c.loop-event.event-index in
    let e = get_or es i (Go 0) in
    c.event.ensures.world ∙ ap (λ (x : WorldData). happens x e) c.loop-event.invariant
    ∙ sym (ap (run c.args.self.now) (take_more es i (Go 0) c.loop-event-test.true)
    ∙ run_more c.args.self.now (take i es) e)

pub returns-clause-lawful : goal.returns-clause-lawful
returns-clause-lawful c = λ k.
    ((run_holds c.args.self.now (take k c.args.events.now) c.invariant_holds.ensures).holds).stands

pub returns-clause-board : goal.returns-clause-board
returns-clause-board c = subst (KeepsBoard c.args.self.now) (sym c.loop-event.invariant)
    (run_board c.args.self.now (take c.loop-event.event-index c.args.events.now))
