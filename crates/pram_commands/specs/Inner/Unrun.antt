-- What a text is whose job may not have been run.
use Rattle.std.specs.Prelude.{◌≡◌, ℕ, List, Option}
use Rattle.pram_streams.specs.Transfer.{Gives}
use Rattle.naming.specs.Drafted.{IsDrafted}
use Rattle.naming.specs.Names.{AreNames}
use Rattle.pram_commands.specs.declared.inputs.Unrun.{Unrun}
use Rattle.pram_commands.specs.declared.inputs.Unrun.TheVariants.{Whole, Drafted}

-- it is of this text, and of its job, or of a program
abbrev pub IsUnrun : List ℕ → Unrun → Type 0
IsUnrun text (Whole spelled) =
    (spelled.text.items ≡ text) × AreNames text spelled.job spelled.names
IsUnrun text (Drafted kept draft) = (kept.items ≡ text) × IsDrafted text draft

-- the source gave such a text
pub record GivesUnrun (source source' : Option (List ℕ)) (unrun : Unrun) : Type 0 where
  pub text : List ℕ
  pub gives : Gives source source' text
  pub is : IsUnrun text unrun
