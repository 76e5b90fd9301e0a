use Rattle.std.proofs.Common.{List, MatchOption, Option, subst, sym}
use Rattle.std.specs.Prelude.{IfSome}
use Rattle.clap.specs.Words.{Row, Text}
use Rattle.command_line.specs.CommandLine.{HasBadValue}
use Rattle.command_line.proofs.Matches.{pair_of}
use Rattle.command_line.proofs.bad_value.bad_value.Goals as goal

pub returns : goal.returns
returns c =
    subst (λ (met : Option (Text × List Row)). IfSome c.bad_in.result (λ found.
    MatchOption found (¬ HasBadValue met) (λ bad. HasBadValue met)))
    (sym (pair_of _ _ _ _ _ c.in_ok-name.ensures.name c.in_ok-name.ensures.rows))
    c.bad_in.ensures
