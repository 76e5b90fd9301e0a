use Rattle.std.proofs.Common.{◌∙◌, codes, sym}
use Rattle.clap.specs.Words.{found_of, rows_of}
use Rattle.clap.proofs.WalkLemmas.{first_value-rows}
use Rattle.command_line.proofs.Values.{is_model, is_no_model}
use Rattle.command_line.proofs.options.model_if_set.Goals as goal

pub returns-in-None : goal.returns-in-None
returns-in-None c =
    let found = found_of c.args.inner.now in
    is_no_model (rows_of found) (sym (c.in-None.ensures ∙ first_value-rows found (codes "model")))

pub returns-in_ok-pram-in-Some : goal.returns-in_ok-pram-in-Some
returns-in_ok-pram-in-Some c =
    let found = found_of c.args.inner.now in
    is_model (rows_of found) c.in-Some.word.now _ _
    (sym (c.in-Some.ensures ∙ first_value-rows found (codes "model")))
    c.named.ensures c.in_ok-pram-in-Some.was
