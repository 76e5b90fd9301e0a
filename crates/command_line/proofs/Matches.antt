-- What matches say of a subcommand, of a number and of a flag.
use Rattle.std.proofs.Common.{◌≡◌, ◌∙◌, ℕ, Bool, true, false, List, Option, None, Some, option_map}
use Rattle.std.proofs.Common.{ap, codes, refl, subst, sym, unwrap_or, []}
use Rattle.std.specs.Prelude.{IsSomeAnd}
use Rattle.std.specs.Str.Parse.{digits_value, without_leading_plus}
use Rattle.clap.specs.Words.{Row, Text, first_of, first_value, found_of, one_of, one_text, rows_of}
use Rattle.clap.specs.Words.{subcommand_name_of, subcommand_rows_of}
use Rattle.clap.specs.declared.ArgMatches.{ArgMatches}
use Rattle.clap.specs.declared.parser.matches.Found.{Found}
use Rattle.clap.proofs.WalkLemmas.{first_value-rows, one_text-rows, raw_values-rows}
use Rattle.clap.specs.Matches.{matched_of, raw_values}
use Rattle.command_data.specs.declared.line.Style.{Style}
use Rattle.pram_cost.specs.declared.pram.Pram.{Pram}
use Rattle.command_line.specs.CommandLine.{HasFile, HasFlag, HasModel, HasSettings, HasStyle}
use Rattle.command_line.specs.CommandLine.{HasSeed, IsFlag, IsModelIfSet, IsNumberIfSet}

abbrev pub both : {B X Y : Type 0} → (B → X) → (B → Y) → B → X × Y
both f g b = (f b, g b)

abbrev pub second : {X Y : Type 0} → X × Y → Y
second p = p.1

-- the first and the second part of what may be there
pub pair_of : {B X Y : Type 0} (f : B → X) (g : B → Y) (o : Option B) (x : X) (y : Y)
    → Some x ≡ option_map f o → Some y ≡ option_map second (option_map (both f g) o)
    → option_map (both f g) o ≡ Some (x, y)
pair_of f g None x y left right = cc
pair_of f g (Some b) x y left right = cc

-- a number that was read is the value of its text
pub number_of : (o : Option Text) (n : ℕ) → (o ≡ None → Some n ≡ None)
    → ((text : Text) → o ≡ Some text → n ≡ digits_value 10 (without_leading_plus text))
    → IsSomeAnd o (λ text. n ≡ digits_value 10 (without_leading_plus text))
number_of None n none value = let bad : Some n ≡ None = none refl in cc
number_of (Some text) n none value = value text refl

-- a flag that was read
pub flag_of : (f : Found) (name : Text) (flag : Bool) →
    (one_text f name ≡ None → flag ≡ false) →
    (one_text f name ≡ Some (codes "true") → flag ≡ true) →
    (one_text f name ≡ Some (codes "false") → flag ≡ false) →
    IsFlag (one_of name (rows_of f)) flag
flag_of f name flag none value other =
    rw (← one_text-rows f name) (record { set = value; unset = other; none = none })

-- the same where it was met
pub has_flag : (matches : Option (Text × List Row)) (name : Text) (f : Found) (option : Text)
    (flag : Bool) → matches ≡ Some (name, rows_of f) → IsFlag (one_of option (rows_of f)) flag →
    HasFlag option matches flag
has_flag matches name f option flag is holds =
    subst (λ (o : Option (Text × List Row)). HasFlag option o flag) (sym is) holds

-- a seed that was met, or none
pub has_seed : (matches : Option (Text × List Row)) (name : Text) (f : Found) (seed : Option ℕ) →
    matches ≡ Some (name, rows_of f) → IsNumberIfSet (codes "random") (rows_of f) seed →
    HasSeed matches seed
has_seed matches name f seed is holds =
    subst (λ (o : Option (Text × List Row)). HasSeed o seed) (sym is) holds

-- a model that was met, or none
pub has_model : (matches : Option (Text × List Row)) (name : Text) (f : Found)
    (model : Option Pram) → matches ≡ Some (name, rows_of f) → IsModelIfSet (rows_of f) model →
    HasModel matches model
has_model matches name f model is holds =
    subst (λ (o : Option (Text × List Row)). HasModel o model) (sym is) holds

-- a style that was met
pub has_style : (matches : Option (Text × List Row)) (name : Text) (f : Found) (style : Style) →
    matches ≡ Some (name, rows_of f) → IsFlag (one_of (codes "csv") (rows_of f)) style.csv →
    IsFlag (one_of (codes "why") (rows_of f)) style.why → HasStyle matches style
has_style matches name f style is csv why = record {
  csv = has_flag matches name f (codes "csv") style.csv is csv;
  why = has_flag matches name f (codes "why") style.why is why;
}

-- what a subcommand that was met has
pub met_with : (P : Text → List Row → Type 0) (matches : Option (Text × List Row)) (name : Text)
    (rows : List Row) → matches ≡ Some (name, rows) → P name rows →
    IsSomeAnd matches (λ met. P met.0 met.1)
met_with P matches name rows is holds =
    subst (λ (o : Option (Text × List Row)). IsSomeAnd o (λ met. P met.0 met.1)) (sym is) holds

-- a file and a plan that were met
module _ (m inner : ArgMatches) (name file : Text) (has_name : Some name ≡ subcommand_name_of m)
    (has_rows : Some (rows_of (found_of inner)) ≡ option_map (λ p. p.1) (subcommand_rows_of m))
    (has_file : Some file ≡ first_value (found_of inner) (codes "file")) where
  abbrev pub met_file : HasFile (subcommand_rows_of m) name file
  met_file = record {
    rows = rows_of (found_of inner);
    met = pair_of _ _ _ _ _ has_name has_rows;
    has_file = sym (has_file ∙ first_value-rows (found_of inner) (codes "file"));
  }

pub met_plan : (inner : ArgMatches) (plan : Option Text) →
    plan ≡ first_value (found_of inner) (codes "plan") →
    first_of (codes "plan") (rows_of (found_of inner)) ≡ plan
met_plan inner plan is = sym (is ∙ first_value-rows (found_of inner) (codes "plan"))

-- what names are set to, where it was met
pub has_settings : (matches : Option (Text × List Row)) (name : Text) (f : Found)
    (given : List Text) → matches ≡ Some (name, rows_of f) →
    given ≡ unwrap_or (option_map raw_values (matched_of f (codes "set"))) [] →
    HasSettings matches given
has_settings matches name f given is holds =
    subst (λ (o : Option (Text × List Row)). HasSettings o given) (sym is)
    (holds ∙ ap (λ (values : Option (List Text)). unwrap_or values [])
    (raw_values-rows f (codes "set")))
