use Rattle.std.proofs.Common.{◌∙◌, append-nil, subst, sym}
use Rattle.std.specs.Io.KnownBytes.{Appends}
use Rattle.pram_streams.specs.Transfer.{AppendsBeginning}
use Rattle.pram_run.proofs.print.begin_sights.Goals as goal

pub returns-in_err-put-clause-beginning : goal.returns-in_err-put-clause-beginning
returns-in_err-put-clause-beginning g c =
    subst (λ bytes. AppendsBeginning (g.W.Sink.taken c.args.sink.now)
    (g.W.Sink.taken c.put.new.sink) bytes) (c.as_bytes.ensures.value ∙ c.header.ensures ∙ sym (append-nil _)) c.in_err-put.ensures.beginning

pub returns-clause-ok : goal.returns-clause-ok
returns-clause-ok g c =
    subst (λ bytes. Appends (g.W.Sink.taken c.args.sink.now) (g.W.Sink.taken c.put.new.sink) bytes)
    (c.as_bytes.ensures.value ∙ c.header.ensures ∙ sym (append-nil _)) c.in_ok-put.ensures.ok

pub returns-clause-beginning : goal.returns-clause-beginning
returns-clause-beginning g c =
    subst (λ bytes. AppendsBeginning (g.W.Sink.taken c.args.sink.now)
    (g.W.Sink.taken c.put.new.sink) bytes) (c.as_bytes.ensures.value ∙ c.header.ensures ∙ sym (append-nil _)) c.in_ok-put.ensures.beginning
