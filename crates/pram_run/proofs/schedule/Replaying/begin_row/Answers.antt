use Rattle.std.proofs.Common.{◌++◌, ◌∷◌, [], List, refl, sym, subst, ap}
use Rattle.std.proofs.lemmas.List.{append-nil}
use Rattle.stop_plan.specs.Schedule.{events_of_act}
use Rattle.pram_world.specs.declared.event.Event.{Event}
use Rattle.pram_world.specs.declared.event.Event.TheVariants.{Stop, Back}
use Rattle.pram_run.specs.Inner.Progress.{IsAfterEvents}
use Rattle.pram_run.specs.Replays.{world_events}
use Rattle.pram_run.proofs.After.{after_quiet}
use Rattle.pram_run.proofs.Advancing.{begun_done, begun_go}
use Rattle.pram_run.proofs.schedule.Replaying.begin_row.Goals as goal

pub returns-in-Go : goal.returns-in-Go
returns-in-Go c = λ trace front job plan come.
    begun_go job plan _ _ _ come c.args.row.now c.args.rows.now c.requires.none c.requires.next
    refl refl refl c.in-Go.is refl refl refl

pub returns-in-Sleep : goal.returns-in-Sleep
returns-in-Sleep c = λ trace front job plan come.
    let row = c.args.row.now in
    begun_done job plan _ _ _ come row c.args.rows.now c.requires.none c.requires.next
    refl refl refl [] c.requires.none
    (ap (events_of_act world_events row.worker row.ticks) c.in-Sleep.is)
    (subst (λ (es : List Event). IsAfterEvents job plan.workers es c.args.self.now.world
    (front ++ trace))
    (sym (append-nil come.made)) come.after)

pub returns-in-Back : goal.returns-in-Back
returns-in-Back c = λ trace front job plan come.
    let row = c.args.row.now in
    begun_done job plan _ _ _ come row c.args.rows.now c.requires.none c.requires.next
    refl refl refl (Back row.worker ∷ []) c.requires.none
    (ap (events_of_act world_events row.worker row.ticks) c.in-Back.is)
    (after_quiet job plan.workers come.made c.args.self.now.world c.event.new.self (front ++ trace)
    (Back row.worker) come.after c.event.ensures.world refl)

pub returns-in-Stop : goal.returns-in-Stop
returns-in-Stop c = λ trace front job plan come.
    let row = c.args.row.now in
    begun_done job plan _ _ _ come row c.args.rows.now c.requires.none c.requires.next
    refl refl refl (Stop row.worker ∷ []) c.requires.none
    (ap (events_of_act world_events row.worker row.ticks) c.in-Stop.is)
    (after_quiet job plan.workers come.made c.args.self.now.world c.event-in-Stop.new.self
    (front ++ trace) (Stop row.worker) come.after c.event-in-Stop.ensures.world refl)
