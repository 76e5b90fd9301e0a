use Rattle.std.proofs.Common.{◌≡◌, None, arith, refl, sym, subst, true, ◌∙◌}
use Rattle.walkx.specs.Walk.{end_of}
use Rattle.lawful_walk.specs.Moments.{Sound}
use Rattle.pram_board.specs.Inner.Plays.{driving}
use Rattle.pram_board.specs.Seats.{Desk}
use Rattle.pram_board.specs.declared.work.Stay.TheVariants as stay
use Rattle.pram_board.proofs.Working.{Begun, ends_there, finished, nearer, reached_there, room_far}
use Rattle.pram_board.proofs.Working.{sofar_none, sofar_on, stays_there}
use Rattle.pram_board.proofs.driver.Driver.work.Goals as goal

pub loop-ended-init : goal.loop-ended-init
loop-ended-init g c = record {
  same = refl;
  board = refl;
  works = c.requires.works;
  sound = subst (λ (b : Desk). Sound b.task.job b.task.layout c.args.self.now.seat.now.record_of)
      c.requires.works.desk c.facts-2.ensures;
  sofar = rw c.none-patience.ensures.looks (sofar_none c.args.self.now.board.now
      (driving c.args.self.now) c.args.worker.now.walking c.args.until c.requires.none);
}

pub go_on-requires : goal.go_on-requires
go_on-requires g c =
    let i = c.loop-ended.invariant in
    let d = driving c.loop-ended.self in
    let works = c.requires.works in
    let begun : Begun d.desk c.args.self.now.seat.now c.args.worker.now.walking =
    subst (λ (b : Desk). Begun b c.args.self.now.seat.now c.args.worker.now.walking) (sym i.board)
    (record { board = c.facts.ensures; fits = works.serves.fits; knows = works.knows }) in
    record {
      room = room_far (driving c.args.self.now) c.args.worker.now.walking c.args.until d
          c.loop-ended.patience.looks c.loop-ended.worker d 0 c.loop-ended.worker c.requires.none
          begun i.sofar;
      few = i.sofar.roamed.few;
      going = sym c.ended.ensures ∙ c.in_default.is;
      works = i.works;
    }

pub loop-ended-preserved : goal.loop-ended-preserved
loop-ended-preserved g c =
    let i = c.loop-ended.invariant in
    let p = driving c.args.self.now in
    let w = c.args.worker.now.walking in
    let d = driving c.loop-ended.self in
    let mid = c.loop-ended.worker in
    let e = driving c.go_on.new.self in
    let now = c.go_on.new.worker in
    let works = c.requires.works in
    let begun : Begun d.desk p.seat w = subst (λ (b : Desk). Begun b p.seat w) (sym i.board)
    (record { board = c.facts.ensures; fits = works.serves.fits; knows = works.knows }) in
    let going : end_of mid.walking.now ≡ None = sym c.ended.ensures ∙ c.in_default.is in
    let goes = c.go_on.ensures.goes in
    let sound = subst (λ (b : Desk). Sound b.task.job b.task.layout e.seat.record_of)
    goes.works.desk c.facts-in-loop-ended.ensures in
    record {
      same = c.go_on.ensures.same ∙ i.same;
      board = goes.roamed.desk ∙ i.board;
      works = goes.works;
      sound = sound;
      sofar = sofar_on p w c.args.until d _ mid e _ now c.requires.none begun i.sofar i.sound _
          goes sound going c.is_limited.ensures (sym c.is_reached.ensures ∙ c.if-is_reached.false);
    }

pub loop-ended-smaller : goal.loop-ended-smaller
loop-ended-smaller g c =
    let i = c.loop-ended.invariant in
    let p = driving c.args.self.now in
    let w = c.args.worker.now.walking in
    let d = driving c.loop-ended.self in
    let mid = c.loop-ended.worker in
    let e = driving c.go_on.new.self in
    let now = c.go_on.new.worker in
    let works = c.requires.works in
    let begun : Begun d.desk p.seat w = subst (λ (b : Desk). Begun b p.seat w) (sym i.board)
    (record { board = c.facts.ensures; fits = works.serves.fits; knows = works.knows }) in
    let going : end_of mid.walking.now ≡ None = sym c.ended.ensures ∙ c.in_default.is in
    let goes = c.go_on.ensures.goes in
    let sound = subst (λ (b : Desk). Sound b.task.job b.task.layout e.seat.record_of)
    goes.works.desk c.facts-in-loop-ended.ensures in
    nearer p w c.args.until d _ mid e _ now c.requires.none begun i.sofar i.sound _ goes sound going

pub returns-in-Some : goal.returns-in-Some
returns-in-Some g c =
    let i = c.loop-ended.invariant in
    let done = finished c.args.self.now.board.now (driving c.args.self.now)
    c.args.worker.now.walking c.args.until (driving c.loop-ended.self) _ c.loop-ended.worker
    (stay.Ended c.in-Some.ended) c.requires.none i.board i.works i.sound i.sofar
    (ends_there c.args.until _ _ _ i.sofar.soon (sym c.ended.ensures ∙ c.in-Some.is)) in
    record { same = i.same; worked = done.worked; later = done.later; works = done.works }

pub returns-then-is_reached : goal.returns-then-is_reached
returns-then-is_reached g c =
    let i = c.loop-ended.invariant in
    let done = finished c.args.self.now.board.now (driving c.args.self.now)
    c.args.worker.now.walking c.args.until (driving c.loop-ended.self) _ c.loop-ended.worker
    stay.Stopped c.requires.none i.board i.works i.sound i.sofar
    (stays_there c.args.until _ _ (reached_there _ _ _ c.args.until (driving c.loop-ended.self) _ _
    c.requires.none i.sofar true (sym c.is_reached.ensures ∙ c.if-is_reached.true))
    (sym c.ended.ensures ∙ c.in_default.is)) in
    record { same = i.same; worked = done.worked; later = done.later; works = done.works }
