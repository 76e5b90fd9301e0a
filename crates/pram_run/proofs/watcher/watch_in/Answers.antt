use Rattle.std.proofs.Common.{◌≡◌, ap, subst}
use Rattle.pram_board.specs.Seats.{Desk, SeatData}
use Rattle.pram_run.specs.Inner.Obeying.{AllWorked, IsToWatch}
use Rattle.pram_run.specs.Inner.Sharing.{plan_of, shared_task}
use Rattle.pram_run.proofs.Endings.{same_goes, all_front}
use Rattle.pram_run.proofs.Watches.{watch_of, watched_of}
use Rattle.pram_run.proofs.watcher.watch_in.Goals as goal

pub returns-in_default-clause-goes_on : goal.returns-in_default-clause-goes_on
returns-in_default-clause-goes_on g c =
    same_goes c.args.seat c.split-seat.result.0 c.split-seat.ensures.first

pub returns-in-Ok-worked-clause-ends : goal.returns-in-Ok-worked-clause-ends
returns-in-Ok-worked-clause-ends g c =
    let plan = (plan_of c.args.shared.now) in
    let all : AllWorked (shared_task c.args.shared.now) plan c.split-seat.result.0
    c.work_in-seat.result.0 = rw c.in-Ok-worked.is at c.work_in-seat.ensures.worked in
    all_front plan
    c.work_in-seat.result.0 c.join-theirs.result.0 c.join-seat.result c.join-seat.ensures.unites
    all.ends

pub returns-in-Ok-worked-clause-sights : goal.returns-in-Ok-worked-clause-sights
returns-in-Ok-worked-clause-sights g c =
    let task = (shared_task c.args.shared.now) in
    let plan = (plan_of c.args.shared.now) in
    let cells = c.args.shared.now.cells.now in
    let rounds = c.args.shared.now.rounds in
    let given : c.split-seat.result.1 ≡ c.args.seat = c.split-seat.ensures.second in
    let promised : IsToWatch cells rounds c.args.seat c.in-Ok.reader.promise =
    subst (λ (p : SeatData). IsToWatch cells rounds p c.in-Ok.reader.promise) given
    c.in-Ok.ensures in
    let all : AllWorked task plan c.args.seat c.work_in-seat.result.0 =
    subst (λ (p : SeatData). AllWorked task plan p c.work_in-seat.result.0)
    c.split-seat.ensures.first (rw c.in-Ok-worked.is at c.work_in-seat.ensures.worked) in
    watched_of task plan cells rounds c.args.seat c.work_in-seat.result.0 c.join-theirs.result.0
    c.join-seat.result c.join-theirs.result.1.items all.obeyed
    (watch_of task cells rounds c.args.seat c.in-Ok.reader.promise c.join-theirs.result.1.items
    c.join-theirs.result.0 promised (ap (λ (d : Desk). d.task) c.requires)
    c.join-theirs.ensures) c.join-seat.ensures.unites
