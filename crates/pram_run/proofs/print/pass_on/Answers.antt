use Rattle.std.proofs.Common.{[], subst, refl, arith}
use Rattle.std.proofs.KnownBytes.{Appends-nil}
use Rattle.pram_streams.specs.Transfer.{AppendsBeginning}
use Rattle.pram_run.specs.Printed.{row_lines}
use Rattle.pram_run.proofs.Streaming.{begins_none, passed_all}
use Rattle.pram_run.proofs.print.pass_on.Goals as goal

pub returns-then-rows-clause-ok : goal.returns-then-rows-clause-ok
returns-then-rows-clause-ok g c =
    record { gone = []; parts = refl; count = omega arith; prints = Appends-nil _ }

pub returns-then-rows-clause-beginning : goal.returns-then-rows-clause-beginning
returns-then-rows-clause-beginning g c = begins_none _ _

pub returns-clause-ok : goal.returns-clause-ok
returns-clause-ok g c =
    passed_all _ _ _ _ _ _ _ c.rows-2.ensures c.clear.ensures c.in_ok-printed.ensures.count
    c.in_ok-printed.ensures.ok

pub returns-in_err-printed-clause-beginning : goal.returns-in_err-printed-clause-beginning
returns-in_err-printed-clause-beginning g c =
    subst (λ rows. AppendsBeginning (g.W.Sink.taken c.args.sink.now)
    (g.W.Sink.taken c.put_rows.new.sink) (row_lines c.args.before rows))
    c.rows-2.ensures c.in_err-printed.ensures.beginning

pub returns-clause-beginning : goal.returns-clause-beginning
returns-clause-beginning g c =
    subst (λ rows. AppendsBeginning (g.W.Sink.taken c.args.sink.now)
    (g.W.Sink.taken c.put_rows.new.sink) (row_lines c.args.before rows))
    c.rows-2.ensures c.in_ok-printed.ensures.beginning
