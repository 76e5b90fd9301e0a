-- A subcommand that was added.
use Rattle.std.proofs.Common.{◌≡◌, ◌∙◌, ◌&&◌, not, Bool, true, false, ap, ap₂}
use Rattle.clap.specs.Words.{App, app_of, with_subcommand}
use Rattle.clap.specs.Simple.{shape_of}
use Rattle.clap.specs.declared.builder.command.Command.{Command, out-Command}

-- the third of four tests
third : (a b c d : Bool) → (a && (not b && (not c && d))) ≡ true → c ≡ false
third true true c d h = cc
third true false true d h = cc
third true false false d h = cc
third false b c d h = cc

abbrev is_plain : App → Bool
is_plain a = a.top.is_plain

no_globals : (k : Command) → is_plain (app_of k) ≡ true → (out-Command k).has_globals ≡ false
no_globals k h = third _ _ _ _ h

pub added : (old new sub : Command) (a b : App) →
    ((out-Command sub).has_globals ≡ false →
    app_of new ≡ with_subcommand (app_of old) (shape_of sub)) → app_of old ≡ a → app_of sub ≡ b →
    is_plain b ≡ true → app_of new ≡ with_subcommand a b.top
added old new sub a b shape of_old of_sub plain =
    shape (no_globals sub (ap is_plain of_sub ∙ plain))
    ∙ ap₂ with_subcommand of_old (ap (λ (x : App). x.top) of_sub)
