use Rattle.std.proofs.Common.{◌≡◌, ℕ, [], ◌∷◌, sym, ap, ◌∙◌}
use Rattle.pram_machine.specs.Machine.{counter_place, register_place}
use Rattle.walk_memory.specs.Memory.{own_at}
use Rattle.lawful_walk.specs.Lands.{settled}
use Rattle.pram_board.specs.Seats.{Desk}
use Rattle.pram_board.proofs.Memory.{more_loads}
use Rattle.pram_board.proofs.Stopping.{Tells, tells}
use Rattle.pram_board.proofs.board.Board.told.Goals as goal

-- what the five words tell
all_tell : (c : goal.After-told_by) → Tells c.args.self.now.task.job c.args.i
    (c.settled_word-counter.result ∷ c.settled_word-first.result ∷ c.settled_word-second.result
    ∷ c.settled_word-third.result ∷ c.settled_word-fourth.result ∷ [])
all_tell c =
    let t = c.args.self.now.task in
    let w = settled t.layout.form t.job t.job.steps in
    let i = c.args.i in
    let v = c.self.view_is in
    let ec : c.counter_place.result ≡ counter_place t.job i =
    c.counter_place.ensures.value ∙ ap (λ (d : Desk). counter_place d.task.job i) v in
    let e0 : c.register_place.result ≡ register_place t.job i 0 =
    c.register_place.ensures.value ∙ ap (λ (d : Desk). register_place d.task.job i 0) v in
    let e1 : c.register_place-2.result ≡ register_place t.job i 1 =
    c.register_place-2.ensures.value ∙ ap (λ (d : Desk). register_place d.task.job i 1) v in
    let e2 : c.register_place-3.result ≡ register_place t.job i 2 =
    c.register_place-3.ensures.value ∙ ap (λ (d : Desk). register_place d.task.job i 2) v in
    let e3 : c.register_place-4.result ≡ register_place t.job i 3 =
    c.register_place-4.ensures.value ∙ ap (λ (d : Desk). register_place d.task.job i 3) v in
    tells t.layout.form t.job i _ _ _ _ _ c.requires.wide
    (c.facts.ensures).limits c.requires.processor
    (c.settled_word-counter.ensures.value ∙ ap w ec) (c.settled_word-first.ensures.value ∙ ap w e0)
    (c.settled_word-second.ensures.value ∙ ap w e1) (c.settled_word-third.ensures.value ∙ ap w e2)
    (c.settled_word-fourth.ensures.value ∙ ap w e3)

pub returns-clause-since : goal.returns-clause-since
returns-clause-since c = c.told_by.ensures.since ∙ (all_tell c).since

pub returns-clause-own : goal.returns-clause-own
returns-clause-own c =
    let since = c.told_by.ensures.since ∙ (all_tell c).since in
    c.told_by.ensures.own ∙ (all_tell c).own
    ∙ ap (λ (n : ℕ). own_at c.args.self.now.task.job n c.args.i) (sym since)

pub returns-clause-loads : goal.returns-clause-loads
returns-clause-loads c =
    let s0 = c.args.seat.now in
    let s1 = c.settled_word-counter.new.seat in
    let s2 = c.settled_word-first.new.seat in
    let s3 = c.settled_word-second.new.seat in
    let s4 = c.settled_word-third.new.seat in
    let s5 = c.settled_word-fourth.new.seat in
    more_loads 8 2 s0 s4 s5 (more_loads 6 2 s0 s3 s4 (more_loads 4 2 s0 s2 s3
    (more_loads 2 2 s0 s1 s2 c.settled_word-counter.ensures.loads
    c.settled_word-first.ensures.loads) c.settled_word-second.ensures.loads)
    c.settled_word-third.ensures.loads) c.settled_word-fourth.ensures.loads
