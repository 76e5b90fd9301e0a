use Rattle.std.proofs.Common.{◌∙◌, subst, arith}
use Rattle.std.specs.Io.KnownBytes.{Appends}
use Rattle.pram_streams.specs.Transfer.{AppendsBeginning}
use Rattle.pram_rows.proofs.Spans.{begins-steps, begun, header-begins, on_err, takes-steps}
use Rattle.pram_rows.proofs.print.print_steps.Goals as goal

pub returns-in_err-put-clause-beginning : goal.returns-in_err-put-clause-beginning
returns-in_err-put-clause-beginning g c =
    let some = c.has_answer.ensures c.args.job.now in
    on_err _ (header-begins (g.R.Rows.rows c.args.rows.now) c.args.job.now c.args.window _ _ some.0 some.1
    (subst (λ l. AppendsBeginning (g.W.Sink.taken c.args.sink.now) (g.W.Sink.taken c.put.new.sink)
    l) (c.as_bytes.ensures.value ∙ c.header.ensures) c.in_err-put.ensures.beginning))

pub returns-in_err-arrival-clause-beginning : goal.returns-in_err-arrival-clause-beginning
returns-in_err-arrival-clause-beginning g c =
    let some = c.has_answer.ensures c.args.job.now in
    on_err _ (begins-steps (g.R.Rows.rows c.args.rows.now) c.args.job.now c.args.window c.min-first.result c.min-end.result
    (omega arith) (omega arith) _ _ _
    (subst (λ l. Appends (g.W.Sink.taken c.args.sink.now) (g.W.Sink.taken c.put.new.sink) l)
    (c.as_bytes.ensures.value ∙ c.header.ensures) c.in_ok-put.ensures.ok)
    some.0 some.1 (c.in_err-arrival.ensures.beginning some.0 some.1))

pub returns-in_err-answer-clause-beginning : goal.returns-in_err-answer-clause-beginning
returns-in_err-answer-clause-beginning g c =
    let some = c.has_answer.ensures c.args.job.now in
    on_err _ (begun (g.R.Rows.rows c.args.rows.now) c.args.job.now c.args.window _ _ some.0
    (takes-steps (g.R.Rows.rows c.args.rows.now) c.args.job.now c.args.window c.min-first.result c.min-end.result
    (omega arith) (omega arith) _ _ _
    (subst (λ l. Appends (g.W.Sink.taken c.args.sink.now) (g.W.Sink.taken c.put.new.sink) l)
    (c.as_bytes.ensures.value ∙ c.header.ensures) c.in_ok-put.ensures.ok)
    some.0 some.1 (c.in_ok-arrival.ensures.rows some.0 some.1)))

pub returns-clause-ok : goal.returns-clause-ok
returns-clause-ok g c =
    takes-steps (g.R.Rows.rows c.args.rows.now) c.args.job.now c.args.window c.min-first.result c.min-end.result
    (omega arith) (omega arith) _ _ _
    (subst (λ l. Appends (g.W.Sink.taken c.args.sink.now) (g.W.Sink.taken c.put.new.sink) l)
    (c.as_bytes.ensures.value ∙ c.header.ensures) c.in_ok-put.ensures.ok)
    c.in_ok-answer.answer c.in_ok-answer.ensures
    (c.in_ok-arrival.ensures.rows c.in_ok-answer.answer c.in_ok-answer.ensures)
