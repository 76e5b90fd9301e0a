use Rattle.std.proofs.Common.{◌≡◌, ℕ, List, Option, None, Some, MatchOption, ap}
use Rattle.std.specs.Prelude.{IsSomeAnd, unwrap_or}
use Rattle.clap.specs.Words.{Row, Text, first_of, found_of, rows_of}
use Rattle.command_line.specs.CommandLine.{IsNumberOf}
use Rattle.command_line.proofs.options.number_or.Goals as goal

-- the number that is set, or another one
or_other : (other : ℕ) (option : Text) (rows : List Row) (first : Option Text)
    (number : Option ℕ) →
    MatchOption first (number ≡ None) (λ _. IsSomeAnd number (IsNumberOf option rows)) →
    MatchOption first (unwrap_or number other ≡ other)
    (λ _. IsNumberOf option rows (unwrap_or number other))
or_other other option rows None number none = ap (λ (n : Option ℕ). unwrap_or n other) none
or_other other option rows (Some text) None set = absurd set
or_other other option rows (Some text) (Some number) set = set

pub returns : goal.returns
returns c =
    let option = c.args.option.now in
    let rows = rows_of (found_of c.args.inner.now) in
    rw c.unwrap_or.ensures (or_other c.args.other option rows (first_of option rows)
    c.in_ok-number.number c.in_ok-number.ensures)
