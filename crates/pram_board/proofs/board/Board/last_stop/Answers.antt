use Rattle.std.proofs.Common.{◌≡◌, ◌*◌, ◌+◌, ℕ, sym, ap, subst, arith}
use Rattle.pram_step.specs.Runs.{IsReached}
use Rattle.lawful_walk.proofs.Sounding.{sound_known}
use Rattle.lawful_walk.specs.Moments.{Sound}
use Rattle.pram_board.specs.Inner.Ends.{EndsThere}
use Rattle.pram_board.specs.Seats.{Desk, HasLoaded}
use Rattle.pram_board.proofs.Memory.{more_loads, still_known}
use Rattle.pram_board.proofs.Remembering.{later_loads}
use Rattle.pram_board.proofs.Stopping.{EndBelow, end_more, stops_there}
use Rattle.pram_board.proofs.board.Board.last_stop.Goals as goal

pub told-since-requires-clause-knows : goal.told-since-requires-clause-knows
told-since-requires-clause-knows c =
    let t = c.args.self.now.task in
    still_known t (10 * c.loop-i.i) c.args.seat.now c.loop-i.seat t.job.steps
    c.loop-i.invariant.loads c.requires.knows.knows

pub returns-in_err-stop-clause-later : goal.returns-in_err-stop-clause-later
returns-in_err-stop-clause-later c =
    let loads = more_loads (10 * c.loop-i.i) 10 c.args.seat.now c.loop-i.seat
    c.told-since.new.seat c.loop-i.invariant.loads c.told-since.ensures.loads in
    later_loads _ _ _ _ c.requires.desk loads

pub loop-i-preserved : goal.loop-i-preserved
loop-i-preserved c =
    let t = c.args.self.now.task in
    let i = c.loop-i.invariant in
    let n : c.self.inside.task.job.procs ≡ t.job.procs =
    ap (λ (d : Desk). d.task.job.procs) c.self.view_is in
    let there : EndsThere t.job c.loop-i.i c.in_ok-stop.stop =
    subst (λ (d : Desk). EndsThere d.task.job c.loop-i.i c.in_ok-stop.stop) c.self.view_is
    c.in_ok-stop.ensures.stops in
    let more : 10 * c.loop-i.i + 10 ≡ 10 * (c.loop-i.i + 1) = omega arith in
    record {
      loads = subst (λ (m : ℕ). HasLoaded m c.args.seat.now c.told-since.new.seat) more
          (more_loads (10 * c.loop-i.i) 10 c.args.seat.now c.loop-i.seat
          c.told-since.new.seat i.loads c.told-since.ensures.loads);
      below = subst (EndBelow t.job (c.loop-i.i + 1)) (sym c.max-last.ensures)
          (end_more t.job c.loop-i.i c.loop-i.last c.in_ok-stop.stop (c.facts.ensures).limits
          (omega arith) i.below there);
    }

pub returns-clause-stops : goal.returns-clause-stops
returns-clause-stops c =
    let t = c.args.self.now.task in
    let n : c.self.inside.task.job.procs ≡ t.job.procs =
    ap (λ (d : Desk). d.task.job.procs) c.self.view_is in
    let all : c.loop-i.i ≡ t.job.procs = omega arith in
    let sound : Sound t.job t.layout c.args.seat.now.record_of =
    subst (λ (d : Desk). Sound d.task.job d.task.layout c.args.seat.now.record_of)
    c.requires.desk c.facts-2.ensures in
    let reached : IsReached t.job t.job.steps = sound_known t.job t.layout
    c.args.seat.now.record_of t.job.steps sound c.requires.knows.knows in
    stops_there t.job c.loop-i.last reached
    (subst (λ (k : ℕ). EndBelow t.job k c.loop-i.last) all c.loop-i.invariant.below)

pub returns-clause-later : goal.returns-clause-later
returns-clause-later c = later_loads _ _ _ _ c.requires.desk c.loop-i.invariant.loads
