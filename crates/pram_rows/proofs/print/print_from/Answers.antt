use Rattle.std.proofs.Common.{subst}
use Rattle.std.specs.Io.KnownBytes.{Appends}
use Rattle.pram_streams.specs.Transfer.{AppendsBeginning}
use Rattle.pram_rows.proofs.Spans.{on_err, rest-begins, rest-taken}
use Rattle.pram_rows.proofs.print.print_from.Goals as goal

pub returns-in_err-put-clause-beginning : goal.returns-in_err-put-clause-beginning
returns-in_err-put-clause-beginning g c =
    on_err _ (rest-begins (g.R.Rows.rows c.args.rows.now) c.args.span.now _ _ _ _ c.in_ok-arrival.ensures.rows
    (subst (λ l. AppendsBeginning (g.W.Sink.taken c.show_span.new.sink)
    (g.W.Sink.taken c.put.new.sink) l) c.as_slice.ensures.value c.in_err-put.ensures.beginning))

pub returns-clause-rows : goal.returns-clause-rows
returns-clause-rows g c =
    rest-taken (g.R.Rows.rows c.args.rows.now) c.args.span.now _ _ _ _ c.in_ok-arrival.ensures.rows
    (subst (λ l. Appends (g.W.Sink.taken c.show_span.new.sink) (g.W.Sink.taken c.put.new.sink) l)
    c.as_slice.ensures.value c.in_ok-put.ensures.ok)
