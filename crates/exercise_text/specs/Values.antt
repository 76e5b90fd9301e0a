-- What names hold.
use Rattle.std.specs.Prelude.{ℕ, ◌+◌, List, [], length, find, map, Option, Some, None}
use Rattle.std.specs.List.{range_with_len}
use Rattle.std.specs.Str.{bytes_eq}
use Rattle.text_lines.specs.Lines.{Word}
use Rattle.pardo_program.specs.Program.{ArrayData}

abbrev pub declared_array : List ArrayData → Word → Option ArrayData
declared_array arrays name = find (λ array. bytes_eq array.name name) arrays

-- what the places of an array hold, by what the cells hold
abbrev pub array_values : (ℕ → ℕ) → ArrayData → List ℕ
array_values cells array = map (λ k. cells (array.base + k)) (range_with_len 0 (length array.start))

-- what the places of the array or scalar of this name hold; there are none where nothing has it
abbrev pub held_by : List ArrayData → (ℕ → ℕ) → Word → List ℕ
held_by arrays cells name = elim (declared_array arrays name) [
  | None ↦ []
  | Some array ↦ array_values cells array
]

-- what they start with
abbrev pub array_start : List ArrayData → Word → List ℕ
array_start arrays name = elim (declared_array arrays name) [
  | None ↦ []
  | Some array ↦ array.start
]

-- a name, and the values that are wanted of it
pub record WantedData : Type 0 where
  pub name : Word
  pub values : List ℕ

abbrev pub wanted_by : (Word → List ℕ) → Word → WantedData
wanted_by values name = record { name = name; values = values name }
