use Rattle.std.proofs.Common.{sym, subst}
use Rattle.lawful_walk.specs.Board.{Stands, Grows}
use Rattle.pram_world.specs.declared.event.Event.{Event}
use Rattle.pram_world.specs.declared.event.Event.TheVariants.{Go, Stop, Back}
use Rattle.pram_world.specs.Worlds.{go, stop, back, WorldData, KeepsBoard, StaleChangesNothing}
use Rattle.pram_world.specs.Worlds.{as_act}
use Rattle.pram_world.proofs.Counting.{same_board}
use Rattle.pram_world.proofs.Interleaving.{act_grows}
use Rattle.pram_world.proofs.Keeping.{happens_holds, stale_changes_nothing}
use Rattle.pram_world.proofs.world.World.event.Goals as goal

pub returns-in-Go-clause-lawful : goal.returns-in-Go-clause-lawful
returns-in-Go-clause-lawful c =
    subst (λ (x : WorldData). Stands x.job x.layout x.words) (sym c.go.ensures.world)
    ((happens_holds c.args.self.now (Go c.in-Go.b) c.invariant_holds.ensures).holds).stands

pub returns-in-Go-clause-stale : goal.returns-in-Go-clause-stale
returns-in-Go-clause-stale c =
    let s = c.args.self.now in
    subst (λ (e : Event). StaleChangesNothing s (as_act e) c.go.new.self) (sym c.in-Go.is)
    (subst (StaleChangesNothing s (go c.in-Go.b)) (sym c.go.ensures.world)
    (stale_changes_nothing s (go c.in-Go.b) c.invariant_holds.ensures))

pub returns-in-Stop-clause-stale : goal.returns-in-Stop-clause-stale
returns-in-Stop-clause-stale c =
    let s = c.args.self.now in
    subst (λ (e : Event). StaleChangesNothing s (as_act e) c.stop.new.self) (sym c.in-Stop.is)
    (subst (StaleChangesNothing s (stop c.in-Stop.b)) (sym c.stop.ensures)
    (stale_changes_nothing s (stop c.in-Stop.b) c.invariant_holds.ensures))

pub returns-in-Back-clause-stale : goal.returns-in-Back-clause-stale
returns-in-Back-clause-stale c =
    let s = c.args.self.now in
    subst (λ (e : Event). StaleChangesNothing s (as_act e) c.back.new.self) (sym c.in-Back.is)
    (subst (StaleChangesNothing s (back c.in-Back.b 0)) (sym c.back.ensures)
    (stale_changes_nothing s (back c.in-Back.b 0) c.invariant_holds.ensures))

pub returns-in-Stop-clause-lawful : goal.returns-in-Stop-clause-lawful
returns-in-Stop-clause-lawful c =
    subst (λ (x : WorldData). Stands x.job x.layout x.words) (sym c.stop.ensures)
    ((happens_holds c.args.self.now (Stop c.in-Stop.b) c.invariant_holds.ensures).holds).stands

pub returns-in-Back-clause-lawful : goal.returns-in-Back-clause-lawful
returns-in-Back-clause-lawful c =
    subst (λ (x : WorldData). Stands x.job x.layout x.words) (sym c.back.ensures)
    ((happens_holds c.args.self.now (Back c.in-Back.b) c.invariant_holds.ensures).holds).stands

pub returns-in-Go-clause-grows : goal.returns-in-Go-clause-grows
returns-in-Go-clause-grows c =
    subst (λ (x : WorldData). Grows c.args.self.now.layout c.args.self.now.words x.words)
    (sym c.go.ensures.world)
    (act_grows c.args.self.now c.invariant_holds.ensures.made
    (go c.in-Go.b) c.invariant_holds.ensures.holds)

pub returns-in-Stop-clause-grows : goal.returns-in-Stop-clause-grows
returns-in-Stop-clause-grows c =
    subst (λ (x : WorldData). Grows c.args.self.now.layout c.args.self.now.words x.words)
    (sym c.stop.ensures) (act_grows c.args.self.now c.invariant_holds.ensures.made
    (stop c.in-Stop.b) c.invariant_holds.ensures.holds)

pub returns-in-Back-clause-grows : goal.returns-in-Back-clause-grows
returns-in-Back-clause-grows c =
    subst (λ (x : WorldData). Grows c.args.self.now.layout c.args.self.now.words x.words)
    (sym c.back.ensures) (act_grows c.args.self.now c.invariant_holds.ensures.made
    (back c.in-Back.b 0) c.invariant_holds.ensures.holds)

pub returns-in-Go-clause-board : goal.returns-in-Go-clause-board
returns-in-Go-clause-board c = subst (KeepsBoard c.args.self.now) (sym c.go.ensures.world)
    (same_board c.args.self.now (Go c.in-Go.b))

pub returns-in-Stop-clause-board : goal.returns-in-Stop-clause-board
returns-in-Stop-clause-board c = subst (KeepsBoard c.args.self.now) (sym c.stop.ensures)
    (same_board c.args.self.now (Stop c.in-Stop.b))

pub returns-in-Back-clause-board : goal.returns-in-Back-clause-board
returns-in-Back-clause-board c = subst (KeepsBoard c.args.self.now) (sym c.back.ensures)
    (same_board c.args.self.now (Back c.in-Back.b))
