use Rattle.std.proofs.Common.{◌∙◌, ◌++◌, ap, subst}
use Rattle.std.proofs.lemmas.Result.{IfOk-weaker}
use Rattle.pram_streams.specs.Transfer.{AppendsBeginning}
use Rattle.pram_rows.specs.Inner.Printing.{TakesBut}
use Rattle.pram_rows.proofs.Reaching.{rows-of}
use Rattle.pram_rows.proofs.print.show_step.Goals as goal

pub returns-clause-ok : goal.returns-clause-ok
returns-clause-ok g c =
    let rows =
    c.in_ok-bytes.ensures ∙ ap (λ l. c.args.bytes.items ++ l) (rows-of
    (g.R.Rows.rows c.args.rows.now) c.args.moment.now.job.now c.args.moment.now.made c.args.moment.now.state.now c.args.moment.now.after) in
    IfOk-weaker c.pass_on.result _ _
    (λ left taken. subst (λ text. TakesBut (g.W.Sink.taken c.args.sink.now)
    (g.W.Sink.taken c.pass_on.new.sink) left.items text) rows taken) c.pass_on.ensures.ok

pub returns-clause-beginning : goal.returns-clause-beginning
returns-clause-beginning g c =
    let rows =
    c.in_ok-bytes.ensures ∙ ap (λ l. c.args.bytes.items ++ l) (rows-of
    (g.R.Rows.rows c.args.rows.now) c.args.moment.now.job.now c.args.moment.now.made c.args.moment.now.state.now c.args.moment.now.after) in
    subst (λ text. AppendsBeginning (g.W.Sink.taken c.args.sink.now)
    (g.W.Sink.taken c.pass_on.new.sink) text) rows c.pass_on.ensures.beginning
