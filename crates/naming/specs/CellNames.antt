-- How a watch tells cells by the names of a text.
use Rattle.std.specs.Prelude.{◌==◌, ◌++◌, if◌then◌else◌, ℕ, List, [], ◌∷◌, Option, None, Some}
use Rattle.std.specs.Prelude.{codes, decimal}
use Rattle.std.specs.List.{list_any}
use Rattle.pram_run.specs.Printed.{CellWords, cells_by_number}
use Rattle.pardo_job.specs.Printed.{cell_text}
use Rattle.naming.specs.Names.{NamingData}

-- a place as a field of a record: in quotes where it has a comma, as one of two indices has
abbrev pub as_field : List ℕ → List ℕ
as_field place =
    if list_any (λ byte. byte == 44) place then 34 ∷ place ++ 34 ∷ [] else place

-- how a watch tells cells: by their numbers, or by a program's places, of those that have one
abbrev pub or_number : List ℕ → ℕ → List ℕ
or_number [] cell = decimal cell
or_number (byte ∷ bytes) cell = as_field (byte ∷ bytes)

abbrev pub cell_words : Option NamingData → CellWords
cell_words None = cells_by_number
cell_words (Some naming) = record {
  header = codes "step,place,value\n";
  word = λ cell. or_number (cell_text naming.program.arrays cell) cell;
}
