use Rattle.std.proofs.Common.{rules, ap, length, refl, sym, subst, inl}
use Rattle.pram_board.specs.declared.task.Task.{Task}
use Rattle.pram_board.specs.Seats.{Desk}
use Rattle.pram_run.specs.Obeyed.{ObeysAnew}
use Rattle.pram_run.proofs.Endings.{goes_self, goes_trans, worked_ends, worked_goes, acts_goes}
use Rattle.pram_run.proofs.Obeying.{other_row, own_row, no_row, stop_row}
use Rattle.pram_run.proofs.runner.obey_rows.Goals as goal
use Rattle.pram_run.proofs.runner.obey_rows.Goals.{then-row-number+else-eq, else-row-number}

pub loop-row-init : goal.loop-row-init
loop-row-init g c = record {
  goes_on = goes_self c.args.seat;
  works = record {
    desk = c.requires.seat;
    serves = c.start_with-worker.ensures.serves c.args.shared.now.board.now.task.job
        c.args.shared.now.board.now.task.layout c.requires.worker;
    knows = c.start_with-worker.ensures.known c.args.shared.now.board.now.task.job
        c.args.shared.now.board.now.task.layout c.args.seat.record_of c.requires.worker;
  };
  obeys = λ q h. (length c.worker_memory.result, rw (← c.start_with-worker.ensures.value) h);
}

pub loop-row-preserved : goal.loop-row-preserved
loop-row-preserved g c = elim c.if-row-number.branch [
  | then-row-number+else-eq w ↦ record {
    goes_on = rw w.seat-is
        (goes_trans c.args.seat c.loop-row.seat w.obey_row.new.seat c.loop-row.invariant.goes_on
        (acts_goes _ _ _ _ _ _ _ _ w.obey_row.ensures.does));
    works = rw (w.seat-is, w.worker-is) w.obey_row.ensures.works;
    obeys = rw (w.seat-is, w.worker-is) (λ q h. c.loop-row.invariant.obeys q
        (own_row _ _ _ _ _ _ _ _ _ q c.loop-row-test.true w.if-row-number.true
        (λ stops. let same = rw stops at w.eq.ensures in absurd (cc)) w.obey_row.ensures.does h));
  }
  | else-row-number w ↦ record {
    goes_on = rw w.seat-is c.loop-row.invariant.goes_on;
    works = rw (w.seat-is, w.worker-is) c.loop-row.invariant.works;
    obeys = rw (w.seat-is, w.worker-is) (λ q h. c.loop-row.invariant.obeys q
        (other_row _ _ _ _ _ _ _ q c.loop-row-test.true w.if-row-number.false h));
  }
]

pub returns-clause-goes_on : goal.returns-clause-goes_on
returns-clause-goes_on g c = goes_trans c.args.seat c.loop-row.seat c.work_among-stay.new.seat
    c.loop-row.invariant.goes_on (worked_goes _ _ _ _ _ _ _ c.work_among-stay.ensures.worked)

pub returns-clause-obeys : goal.returns-clause-obeys
returns-clause-obeys g c =
    subst (λ (t : Task). ObeysAnew t c.args.number c.args.rows.now c.args.seat
    c.work_among-stay.new.seat) (sym (ap (λ (d : Desk). d.task) c.requires.seat))
    (c.loop-row.invariant.obeys c.work_among-stay.new.seat
    (no_row _ _ _ _ _ _ _ _ _ c.loop-row-test.false c.work_among-stay.ensures.worked))

pub returns-then-eq-clause-obeys : goal.returns-then-eq-clause-obeys
returns-then-eq-clause-obeys g c =
    subst (λ (t : Task). ObeysAnew t c.args.number c.args.rows.now c.args.seat c.loop-row.seat)
    (sym (ap (λ (d : Desk). d.task) c.requires.seat))
    (c.loop-row.invariant.obeys c.loop-row.seat (stop_row _ _ _ _ _ _ _ _ c.loop-row-test.true
    c.if-row-number.true (search rules) refl))

pub returns-clause-ends : goal.returns-clause-ends
returns-clause-ends g c = inl (worked_ends _ _ _ _ _ _ c.work_among-stay.ensures.works.desk
    c.work_among-stay.ensures.worked)
