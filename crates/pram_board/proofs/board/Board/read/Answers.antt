use Rattle.std.proofs.Common.{◌≡◌, ap, sym, subst, ◌∙◌, arith}
use Rattle.walkx.specs.declared.operation.ReadOp.{ReadOp}
use Rattle.walkx.specs.declared.operation.ReadOp.TheVariants as read
use Rattle.walkx.specs.declared.operation.Op.TheVariants.{Load}
use Rattle.walkx.specs.Serving.{FollowsScript}
use Rattle.walk_memory.proofs.Boards.{same_cells}
use Rattle.walkx.specs.Reads.{HeardAdmitted, LooksFit, LooksOnBoard, look_of, looked, looks_for}
use Rattle.walkx.specs.Records.{after}
use Rattle.lawful_walk.specs.Moments.{Sound}
use Rattle.pram_board.specs.Seats.{Desk, SeatData}
use Rattle.pram_board.proofs.Looking.{looks_on, looks_over}
use Rattle.pram_board.proofs.Remembering.{remembers_looks}
use Rattle.pram_board.proofs.Steps.{admits}
use Rattle.pram_board.proofs.board.Board.read.Goals as goal

pub returns-in-Over-clause-later : goal.returns-in-Over-clause-later
returns-in-Over-clause-later c =
    let i = c.loop-reading.invariant in
    record { desk = i.desk; keeps = remembers_looks _ _ _ _ _ i.looks }

pub returns-in-Over-clause-read : goal.returns-in-Over-clause-read
returns-in-Over-clause-read c =
    let x = c.loop-reading.reader.looking in
    looks_over c.args.self.now.task
    c.args.seat.now c.loop-reading.seat c.args.cell x c.in-Over.reading
    (omega (arith, same_cells c.args.self.now.task.job c.args.self.now.task.layout c.facts.ensures))
    c.loop-reading.invariant.looks
    (sym (c.ask.ensures.asks ∙ ap (λ d. looks_for (look_of d.task.layout x)) c.self.view_is)
    ∙ c.in-Over.is)

pub tell-requires-clause-admitted : goal.tell-requires-clause-admitted
tell-requires-clause-admitted c =
    let t = c.args.self.now.task in
    let x = c.loop-reading.reader.looking in
    let found = c.step-answer.result in
    let r = c.loop-reading.seat.record_of in
    let e : looks_for (look_of t.layout x) ≡ read.Load c.in-Load.word =
    sym (c.ask.ensures.asks ∙ ap (λ d. looks_for (look_of d.task.layout x)) c.self.view_is)
    ∙ c.in-Load.is in
    let ok : LooksOnBoard t.layout (read.Load c.in-Load.word) =
    subst (LooksOnBoard t.layout) c.in-Load.is (subst (λ (d : Desk).
    LooksOnBoard d.task.layout c.ask.result) c.self.view_is c.ask.ensures.on_board) in
    let sound : Sound t.job t.layout (after r (Load c.in-Load.word) found) =
    subst (λ (p : SeatData). Sound t.job t.layout p.record_of)
    c.step-answer.ensures.grows c.step-answer.ensures.sound in
    let heard : HeardAdmitted t.job t.layout (read.Load c.in-Load.word) found =
    admits t r (Load c.in-Load.word) found sound ok in
    subst (λ (d : Desk). HeardAdmitted d.task.job d.task.layout
    (looks_for (look_of d.task.layout x)) found) (sym c.self.view_is)
    (subst (λ (o : ReadOp). HeardAdmitted t.job t.layout o found) (sym e) heard)

pub loop-reading-preserved : goal.loop-reading-preserved
loop-reading-preserved c =
    let t = c.args.self.now.task in
    let x = c.loop-reading.reader.looking in
    let found = c.step-answer.result in
    let i = c.loop-reading.invariant in
    let e : looks_for (look_of t.layout x) ≡ read.Load c.in-Load.word =
    sym (c.ask.ensures.asks ∙ ap (λ d. looks_for (look_of d.task.layout x)) c.self.view_is)
    ∙ c.in-Load.is in
    record {
      desk = ap (λ (p : SeatData). p.desk) c.step-answer.ensures.grows ∙ i.desk;
      follows = subst (λ (d : Desk). FollowsScript d.task.layout c.tell.new.self)
          c.self.view_is c.tell.ensures.follows;
      fits = subst (λ (d : Desk). LooksFit d.task.job d.task.layout c.tell.new.self.looking)
          c.self.view_is c.tell.ensures.fits;
      looks = looks_on t c.args.seat.now c.loop-reading.seat
          c.args.cell c.in-Load.word found x c.step-answer.new.seat c.tell.new.self.looking
          i.looks e c.step-answer.ensures.grows c.step-answer.ensures.sound
          (c.tell.ensures.told ∙ ap (λ d. looked x found (look_of d.task.layout x)) c.self.view_is);
    }
