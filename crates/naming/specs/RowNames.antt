-- How the rows of steps are told by the names of a text.
use Rattle.std.specs.Prelude.{ℕ, ◌&&◌, if◌then◌else◌, List, ◌++◌, codes, decimal}
use Rattle.std.specs.Prelude.{Option, Some, None, is_err}
use Rattle.text_lines.specs.Lines.{Word, is_filled}
use Rattle.pram_job.specs.declared.instr.Array.{Array}
use Rattle.pram_text.specs.Judgement.{register_of}
use Rattle.pram_rows.specs.Instructions.{array_text}
use Rattle.pram_rows.specs.Rows.{RowWords, by_numbers}
use Rattle.pardo_job.specs.Printed.{cell_text}
use Rattle.naming.specs.ArrayNames.{may_name, variable_name}
use Rattle.naming.specs.Names.{NamingData}

-- a cell by its place, but by its number where it has none, or one that is named as a register is
abbrev pub place_word : List ℕ → ℕ → List ℕ
place_word place cell =
    if is_filled place && is_err (register_of place) then place else codes "cell " ++ decimal cell

-- an array by the name of its variable, but by its cells where it has none, or a register's
abbrev pub range_word : Option Word → Array → List ℕ
range_word None array = array_text array
range_word (Some name) array = if may_name name then name else array_text array

-- How rows are told: of a program with the lines that its job's instructions came from, and by its
-- names.
abbrev pub row_words : Option NamingData → RowWords
row_words None = by_numbers None
row_words (Some naming) = record {
  lines = Some naming.numbers;
  cell = λ cell. place_word (cell_text naming.program.arrays cell) cell;
  array = λ array. range_word (variable_name naming.program array) array;
}
