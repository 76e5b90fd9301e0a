-- Rows written by csv, one after the other, and put into a sink piece by piece.
use Rattle.std.specs.Prelude.{◌≡◌, ◌++◌, ℕ, Bool, true, false, List, Option, take}
use Rattle.std.specs.Io.KnownBytes.{Appends}

-- The sink took a text but for these bytes, which are still to be put.
pub record TakesBut (sink sink' : Option (List ℕ)) (rest text : List ℕ) : Type 0 where
  pub front : List ℕ
  pub put : Appends sink sink' front
  pub text_is : front ++ rest ≡ text

-- the fields of a row that are written: all, or all but the line
abbrev pub told_fields : Bool → List (List ℕ) → List (List ℕ)
told_fields false fields = take 7 fields
told_fields true fields = fields
