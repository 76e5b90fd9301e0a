use Rattle.std.proofs.Common.{◌∙◌, [], List, Option, ap, map, unwrap_or}
use Rattle.std.proofs.lemmas.Result.{IfOk-weaker}
use Rattle.std.specs.Borrow.{Bor}
use Rattle.clap.specs.Words.{Text, found_of}
use Rattle.command_line.proofs.Matches.{has_settings, pair_of}
use Rattle.command_line.proofs.line.settings_of.Goals as goal

abbrev texts_of : List (Bor Text) → List Text
texts_of words = map (λ (word : Bor Text). word.now) words

abbrev or_none : Option (List Text) → List Text
or_none values = unwrap_or values []

pub returns-in-Some-get_strs : goal.returns-in-Some-get_strs
returns-in-Some-get_strs c =
    let is = pair_of _ _ _ _ _ c.in-Some.ensures.name c.in-Some.ensures.rows in
    let values = ap or_none c.in-Some-get_strs.ensures in
    IfOk-weaker c.from_slice.result _ _ (λ settings copied.
    has_settings _ _ (found_of c.in-Some.inner.now) _ is (ap texts_of copied ∙ values))
    c.from_slice.ensures.items

pub returns-in-None : goal.returns-in-None
returns-in-None c =
    let is = pair_of _ _ _ _ _ c.in-Some.ensures.name c.in-Some.ensures.rows in
    has_settings _ _ (found_of c.in-Some.inner.now) _ is
    (ap texts_of c.new-in-None.ensures.items ∙ ap or_none c.in-None.ensures)
