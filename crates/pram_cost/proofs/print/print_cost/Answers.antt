use Rattle.std.proofs.Common.{◌∙◌, subst}
use Rattle.std.specs.Io.KnownBytes.{Appends}
use Rattle.pram_cost.proofs.print.print_cost.Goals as goal

pub returns-clause-ok : goal.returns-clause-ok
returns-clause-ok g c =
    subst (λ bytes. Appends (g.W.Sink.taken c.args.sink.now) (g.W.Sink.taken c.put.new.sink) bytes)
    (c.as_slice.ensures.value ∙ c.in_ok-text.ensures) c.in_ok-put.ensures.ok
