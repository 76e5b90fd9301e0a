use Rattle.std.proofs.Common.{◌≡◌, ◌∙◌, None, codes, rules, sym}
use Rattle.clap.specs.Words.{found_of, rows_of}
use Rattle.clap.proofs.WalkLemmas.{first_value-rows}
use Rattle.command_line.proofs.Values.{bad_model, good_model, none_bad}
use Rattle.command_line.proofs.bad_value.bad_model.Goals as goal

pub returns-in_err-text : goal.returns-in_err-text
returns-in_err-text c =
    let found = found_of c.args.inner.now in
    let e : c.from_residual.result ≡ None = search rules in
    rw e (none_bad (rows_of found)
    (sym (c.in_err-text.ensures ∙ first_value-rows found (codes "model"))))

pub returns-in-None : goal.returns-in-None
returns-in-None c =
    let found = found_of c.args.inner.now in
    bad_model (rows_of found) c.in_ok-text.text.now _
    (sym (c.in_ok-text.ensures ∙ first_value-rows found (codes "model")))
    c.named.ensures c.in-None.is

pub returns-in-Some : goal.returns-in-Some
returns-in-Some c =
    let found = found_of c.args.inner.now in
    good_model (rows_of found) c.in_ok-text.text.now _ _
    (sym (c.in_ok-text.ensures ∙ first_value-rows found (codes "model")))
    c.named.ensures c.in-Some.is
