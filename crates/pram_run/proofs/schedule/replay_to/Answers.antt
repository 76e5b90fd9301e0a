use Rattle.std.proofs.Common.{◌++◌, [], subst, sym, refl, arith}
use Rattle.std.specs.Io.KnownBytes.{Appends}
use Rattle.pram_streams.specs.Transfer.{AppendsBeginning}
use Rattle.pram_run.specs.Inner.Underway.{HasCome}
use Rattle.pram_run.specs.Printed.{row_lines}
use Rattle.pram_run.proofs.Streaming.{begins, begins_all, begins_kept, begins_none, begins_printed}
use Rattle.pram_run.proofs.Streaming.{further_printed, on_err, passed_on, starts_with}
use Rattle.pram_run.proofs.Streaming.{takes_all, unfailed}
use Rattle.pram_run.proofs.schedule.replay_to.Goals as goal

pub returns-in_err-replaying-clause-beginning : goal.returns-in_err-replaying-clause-beginning
returns-in_err-replaying-clause-beginning g c =
    on_err _
    (begins c.args.job.now c.args.plan.now _ _ []
    (starts_with c.args.job.now c.args.plan.now c.limits_hold.ensures
    (omega (arith, c.requires.some, c.requires.plan))
    (omega (arith, c.requires.most, c.requires.plan))) (begins_none _ _))

pub returns-in_err-put-clause-beginning : goal.returns-in_err-put-clause-beginning
returns-in_err-put-clause-beginning g c =
    on_err _
    (begins c.args.job.now c.args.plan.now _ _ []
    (starts_with c.args.job.now c.args.plan.now c.limits_hold.ensures
    (omega (arith, c.requires.some, c.requires.plan))
    (omega (arith, c.requires.most, c.requires.plan)))
    (subst (λ bytes. AppendsBeginning (g.W.Sink.taken c.args.sink.now)
    (g.W.Sink.taken c.put.new.sink) bytes) c.as_bytes.ensures.value c.in_err-put.ensures.beginning))

pub loop-kept-init : goal.loop-kept-init
loop-kept-init g c = record {
  unfailed = c.in_ok-put.ensures.failed;
  printed = record {
    gone = [];
    come = subst
        (λ rows. HasCome c.args.job.now c.args.plan.now c.in_ok-replaying.replaying rows)
        (sym c.new-kept.ensures) c.in_ok-replaying.ensures;
    counted = refl;
    prints = subst
        (λ bytes. Appends (g.W.Sink.taken c.args.sink.now) (g.W.Sink.taken c.put.new.sink) bytes)
        c.as_bytes.ensures.value c.in_ok-put.ensures.ok;
  };
}

pub advance-requires : goal.advance-requires
advance-requires g c =
    let printed = c.loop-kept.invariant.printed in
    (c.args.job.now, c.args.plan.now, printed.gone ++ c.loop-kept.kept, printed.come)

pub returns-in_err-advance-clause-beginning : goal.returns-in_err-advance-clause-beginning
returns-in_err-advance-clause-beginning g c =
    on_err _
    (begins_printed _ _ _ _ _ _ _ c.loop-kept.invariant.printed)

pub returns-in_err-printed-clause-beginning : goal.returns-in_err-printed-clause-beginning
returns-in_err-printed-clause-beginning g c =
    on_err _
    (begins_kept _ _ _ _ _ _ _ (further_printed _ _ _ _ _ _ _ _ _ _ c.in_ok-advance.ensures
    c.loop-kept.invariant.printed) _ c.in_err-printed.ensures.beginning)

pub loop-kept-smaller : goal.loop-kept-smaller
loop-kept-smaller g c =
    let printed = c.loop-kept.invariant.printed in
    (c.in_ok-advance.ensures printed.gone c.args.job.now c.args.plan.now printed.come).fewer
    c.if-branch.true

pub loop-kept-preserved : goal.loop-kept-preserved
loop-kept-preserved g c = record {
  unfailed = unfailed _ _ c.in_ok-printed.ensures.failed;
  printed = passed_on _ _ _ _ _ _ _ (further_printed _ _ _ _ _ _ _ _ _ _ c.in_ok-advance.ensures
      c.loop-kept.invariant.printed) _ _ _ c.in_ok-printed.ensures.ok;
}

pub returns-in_err-put_rows-clause-beginning : goal.returns-in_err-put_rows-clause-beginning
returns-in_err-put_rows-clause-beginning g c =
    on_err _
    (begins_kept _ _ _ _ _ _ _ (further_printed _ _ _ _ _ _ _ _ _ _ c.in_ok-advance.ensures
    c.loop-kept.invariant.printed) _
    (subst (λ rows. AppendsBeginning (g.W.Sink.taken c.loop-kept.sink)
    (g.W.Sink.taken c.put_rows.new.sink) (row_lines c.loop-kept.printed rows))
    c.rows.ensures c.in_err-put_rows.ensures.beginning))

pub returns-in_err-answer-clause-beginning : goal.returns-in_err-answer-clause-beginning
returns-in_err-answer-clause-beginning g c =
    on_err _
    (begins_all _ _ _ _ _ _ _ (further_printed _ _ _ _ _ _ _ _ _ _ c.in_ok-advance.ensures
    c.loop-kept.invariant.printed) _
    (subst (λ rows. Appends (g.W.Sink.taken c.loop-kept.sink)
    (g.W.Sink.taken c.put_rows.new.sink) (row_lines c.loop-kept.printed rows))
    c.rows.ensures c.in_ok-put_rows.ensures.ok))

pub returns-clause-ok : goal.returns-clause-ok
returns-clause-ok g c =
    takes_all c.args.job.now c.args.plan.now _ _ _ _ _ _ _ _ _ _ c.in_ok-advance.ensures
    c.if-branch.false c.loop-kept.invariant.printed
    (subst (λ rows. Appends (g.W.Sink.taken c.loop-kept.sink)
    (g.W.Sink.taken c.put_rows.new.sink) (row_lines c.loop-kept.printed rows))
    c.rows.ensures c.in_ok-put_rows.ensures.ok) c.in_ok-answer.ensures
