use Rattle.std.proofs.Common.{◌≡◌, ◌*◌, ◌+◌, take, refl, ap, subst, ◌∙◌, arith}
use Rattle.pram_step.specs.Runs.{IsReached, state_after}
use Rattle.lawful_walk.proofs.Sounding.{sound_known}
use Rattle.lawful_walk.specs.Moments.{Sound}
use Rattle.pram_board.specs.Seats.{Desk, HasLoaded}
use Rattle.pram_board.proofs.Memory.{more_loads, still_known, cells_more}
use Rattle.pram_board.proofs.Remembering.{later_loads}
use Rattle.pram_board.proofs.board.Board.memory.Goals as goal

pub last_value-value-requires-clause-knows : goal.last_value-value-requires-clause-knows
last_value-value-requires-clause-knows c =
    let t = c.args.self.now.task in
    still_known t (2 * c.loop-cell.cell) c.args.seat.now c.loop-cell.seat t.job.steps
    c.loop-cell.invariant.loads c.requires.knows.knows

pub loop-cell-preserved : goal.loop-cell-preserved
loop-cell-preserved c =
    let t = c.args.self.now.task in
    let i = c.loop-cell.invariant in
    let n : c.self.inside.task.job.cells ≡ t.job.cells =
    ap (λ (d : Desk). d.task.job.cells) c.self.view_is in
    let twice : 2 * c.loop-cell.cell + 2 ≡ 2 * (c.loop-cell.cell + 1) = omega arith in
    record {
      loads = subst (λ n. HasLoaded n c.args.seat.now c.last_value-value.new.seat) twice
          (more_loads (2 * c.loop-cell.cell) 2 c.args.seat.now
          c.loop-cell.seat c.last_value-value.new.seat i.loads c.last_value-value.ensures.loads);
      values = cells_more t c.loop-cell.values.items _
          c.loop-cell.cell c.last_value-value.result c.facts.ensures
          (omega arith) i.values c.last_value-value.ensures.value c.push_reserved.ensures.items;
      room = omega arith;
      len = omega arith;
    }

pub returns-clause-cells : goal.returns-clause-cells
returns-clause-cells c =
    let t = c.args.self.now.task in
    let i = c.loop-cell.invariant in
    let n : c.self.inside.task.job.cells ≡ t.job.cells =
    ap (λ (d : Desk). d.task.job.cells) c.self.view_is in
    let all : c.loop-cell.cell ≡ t.job.cells = omega arith in
    let sound : Sound t.job t.layout c.args.seat.now.record_of =
    subst (λ (d : Desk). Sound d.task.job d.task.layout c.args.seat.now.record_of)
    c.requires.desk c.facts-2.ensures in
    let reached : IsReached t.job t.job.steps = sound_known t.job t.layout
    c.args.seat.now.record_of t.job.steps sound c.requires.knows.knows in (
      state_after t.job t.job.steps,
      record { reached = reached; state = refl },
      i.values ∙ ap (λ k. take k (state_after t.job t.job.steps)) all,
    )

pub returns-clause-later : goal.returns-clause-later
returns-clause-later c =
    let i = c.loop-cell.invariant in
    later_loads _ _ _ _ c.requires.desk i.loads
