use Rattle.std.proofs.Common.{◌≡◌, ◌∙◌, ℕ, List, Option, None, Some, MatchOption, subst, refl}
use Rattle.std.specs.Prelude.{IsSomeAnd}
use Rattle.clap.specs.Words.{Text, Row, found_of, one_text, rows_of}
use Rattle.clap.proofs.WalkLemmas.{first_value-rows, one_text-rows}
use Rattle.command_line.specs.CommandLine.{IsNumberOf}
use Rattle.command_line.proofs.Matches.{number_of}
use Rattle.command_line.proofs.options.number_if_set.Goals as goal

abbrev Fact : Option ℕ → Text → List Row → Option Text → Type 0
Fact number option rows first =
    MatchOption first (number ≡ None) (λ _. IsSomeAnd number (IsNumberOf option rows))

pub returns-in-None : goal.returns-in-None
returns-in-None c =
    let rows = rows_of (found_of c.args.inner.now) in
    subst (Fact None c.args.option.now rows)
    (c.in-None.ensures ∙ first_value-rows (found_of c.args.inner.now) c.args.option.now) refl

pub returns-in_ok-number-in-Some : goal.returns-in_ok-number-in-Some
returns-in_ok-number-in-Some c =
    let found = found_of c.args.inner.now in
    let option = c.args.option.now in
    let number : IsNumberOf option (rows_of found) c.in_ok-number-in-Some.number =
    rw (← one_text-rows found option)
    (number_of (one_text found option) _ c.in_ok-number-in-Some.ensures.none
    (λ text is. (c.in_ok-number-in-Some.ensures.value text is).0.1)) in
    subst (Fact (Some c.in_ok-number-in-Some.number) option (rows_of found))
    (c.in-Some.ensures ∙ first_value-rows found option) number
