use Rattle.std.proofs.Common.{[], ◌∷◌, refl, ap, sym, subst, ◌∙◌}
use Rattle.walkx.specs.declared.operation.Op.{Op}
use Rattle.walkx.specs.Records.{after}
use Rattle.walkx.specs.Serving.{Serves}
use Rattle.walkx.specs.Walk.{HearsAdmitted, IsStepOn, ask_of, told, AsksAdmitted}
use Rattle.lawful_walk.specs.Moments.{Sound}
use Rattle.pram_board.specs.Seats.{Desk, SeatData, hears}
use Rattle.pram_board.proofs.Keeps.{may_as}
use Rattle.pram_board.proofs.Steps.{may_step, admits}
use Rattle.pram_board.proofs.Remembering.{remembers_more}
use Rattle.pram_board.proofs.Told.{knows_told}
use Rattle.pram_board.proofs.board.Board.advance.Goals as goal

pub step-answer-requires-clause-allowed : goal.step-answer-requires-clause-allowed
step-answer-requires-clause-allowed c =
    let t = c.args.self.now.task in
    let w = c.args.worker.now.walking in
    let next = c.requires.next in
    may_as t t c.args.seat.now.record_of _ (ask_of t.job t.layout w) c.args.op refl refl
    (sym next.is)
    (may_step t c.args.seat.now.record_of w c.requires.works.serves.fits c.requires.works.knows
    (subst (IsStepOn t.layout) next.is (next.step c.requires.going)))

pub tell-requires-clause-admitted : goal.tell-requires-clause-admitted
tell-requires-clause-admitted c =
    let t = c.args.self.now.task in
    let w = c.args.worker.now.walking in
    let found = c.step-answer.result in
    let next = c.requires.next in
    let sound : Sound t.job t.layout (after c.args.seat.now.record_of c.args.op found) =
    subst (λ (p : SeatData). Sound t.job t.layout p.record_of) c.step-answer.ensures.grows
    c.step-answer.ensures.sound in
    let heard : HearsAdmitted t.job t.layout (ask_of t.job t.layout w) found =
    subst (λ (op : Op). HearsAdmitted t.job t.layout op found) next.is
    (admits t c.args.seat.now.record_of c.args.op found sound next.admitted) in
    subst (λ (d : Desk). HearsAdmitted d.task.job d.task.layout
    (ask_of d.task.job d.task.layout w) found) (sym c.self.view_is) heard

pub returns-clause-ticked : goal.returns-clause-ticked
returns-clause-ticked c =
    let w = c.args.worker.now.walking in
    let found = c.step-answer.result in
    record {
      found = found;
      seat = c.step-answer.ensures.grows ∙ ap (λ op. hears c.args.seat.now op found)
          (c.requires.next).is;
      worker = c.tell.ensures.told ∙ ap (λ d. told d.task.job d.task.layout w found) c.self.view_is;
    }

pub returns-clause-later : goal.returns-clause-later
returns-clause-later c =
    let t = c.args.self.now.task in
    let w = c.args.worker.now.walking in
    let ticked = returns-clause-ticked c in
    record {
      desk = ap (λ (p : SeatData). p.desk) c.step-answer.ensures.grows ∙ c.requires.works.desk;
      keeps = remembers_more _ _ ((ask_of t.job t.layout w, ticked.found) ∷ []) ticked.seat;
    }

pub returns-clause-works : goal.returns-clause-works
returns-clause-works c =
    let works = c.requires.works in
    record {
      desk = ap (λ (p : SeatData). p.desk) c.step-answer.ensures.grows ∙ works.desk;
      serves = subst (λ (d : Desk). Serves d.task.job d.task.layout c.tell.new.self) c.self.view_is
          c.tell.ensures.serves;
      knows = knows_told c.args.self.now.task c.args.seat.now c.args.worker.now.walking
          c.step-answer.new.seat c.tell.new.self.walking (returns-clause-ticked c)
          c.step-answer.ensures.sound
          (subst (AsksAdmitted c.args.self.now.task.job c.args.self.now.task.layout)
          c.requires.next.is c.requires.next.admitted) works.serves.fits works.knows;
    }
