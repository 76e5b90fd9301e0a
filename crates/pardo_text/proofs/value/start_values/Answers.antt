use Rattle.std.proofs.Common.{◌∙◌}
use Rattle.std.proofs.lemmas.Result.{err_from_is_err_and}
use Rattle.pardo_text.specs.Inner.Names.{names_in}
use Rattle.pardo_text.proofs.Starts.{start_given}
use Rattle.pardo_text.proofs.value.start_values.Goals as goal

pub returns : goal.returns
returns c = start_given (names_in c.args.names.now) c.args.places c.len.result c.args.tokens.now
    c.expect.new.tokens c.new-values.result.items _ c.in_ok-fills.fills c.len.ensures
    c.if-len-eq0.false c.in_ok-expect.ensures c.new-values.ensures.items c.in_ok-fills.ensures
    ∙ c.in_ok-fill.ensures

pub returns-in_err-fill : goal.returns-in_err-fill
returns-in_err-fill c =
    let p = err_from_is_err_and c.from_residual-in_err-fill.result
    c.from_residual-in_err-fill.ensures.1 in
    rw (p.1, p.2) (λ ne. start_given (names_in c.args.names.now) c.args.places c.len.result
    c.args.tokens.now c.expect.new.tokens c.new-values.result.items _ c.in_ok-fills.fills
    c.len.ensures c.if-len-eq0.false c.in_ok-expect.ensures c.new-values.ensures.items
    c.in_ok-fills.ensures ∙ c.in_err-fill.ensures ne)
