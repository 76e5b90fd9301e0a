-- Cells named by a text, parted by commas: by their numbers, or as places of a program.
use Rattle.std.specs.Prelude.{◌⊎◌, ◌==◌, ◌<◌, ◌^◌, ℕ, Bool, true, false, not, ◌&&◌}
use Rattle.std.specs.Prelude.{◌+◌, if◌then◌else◌, List, [], ◌∷◌, IsTrue, slice_index_or}
use Rattle.std.specs.Prelude.{Option, Some, None}
use Rattle.std.specs.Borrow.{Bor}
use Rattle.std.specs.List.{All, onto_first}
use Rattle.std.specs.Str.Parse.{IsNumeral, digits_value, without_leading_plus}
use Rattle.pardo_text.specs.Tokens.{begins_name}

-- whether a bracket is open after a byte
abbrev pub open_after : Bool → ℕ → Bool
open_after inside byte = if byte == 91 then true else (if byte == 93 then false else inside)

-- the parts of a text, in which a bracket may be open, between its commas; a comma in brackets
-- parts nothing
abbrev pub cut : Bool → List ℕ → List (List ℕ)
cut inside [] = [] ∷ []
cut inside (byte ∷ bytes) =
    if (byte == 44) && not inside then [] ∷ cut false bytes
    else onto_first byte (cut (open_after inside byte) bytes)

abbrev pub parts_of : List ℕ → List (List ℕ)
parts_of = cut false

-- the part of this number, counted from 0
abbrev pub part_at : List (List ℕ) → ℕ → List ℕ
part_at parts at = slice_index_or parts at []

abbrev pub cell_listed : List ℕ → ℕ
cell_listed part = digits_value 10 (without_leading_plus part)

-- a number below 2^32
abbrev pub SpellsCell : List ℕ → Type 0
SpellsCell part = IsNumeral 10 (without_leading_plus part) × (cell_listed part < 2 ^ 32)

-- whether it begins as a name does
abbrev pub begins_place : List ℕ → Bool
begins_place [] = false
begins_place (byte ∷ bytes) = begins_name byte

-- each part is such a number, or begins as a name does
abbrev pub SpellsPart : List ℕ → Type 0
SpellsPart part = SpellsCell part ⊎ IsTrue (begins_place part)

abbrev pub SpellsCells : List ℕ → Type 0
SpellsCells text = All SpellsPart (parts_of text)

-- how many bytes stand before the first comma that parts
abbrev pub part_len : Bool → List ℕ → ℕ
part_len inside [] = 0
part_len inside (byte ∷ bytes) =
    if (byte == 44) && not inside then 0 else part_len (open_after inside byte) bytes + 1

-- the parts after a comma, and none where there is no comma
abbrev pub parts_left : Option (Bor (List ℕ)) → List (List ℕ)
parts_left None = []
parts_left (Some rest) = parts_of rest.now
