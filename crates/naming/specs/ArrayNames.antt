-- By which names the arrays of a text's job are printed.
use Rattle.std.specs.Prelude.{ℕ, ◌-◌, ◌/◌, Bool, ◌&&◌, ◌==◌, if◌then◌else◌, List, [], ◌∷◌}
use Rattle.std.specs.Prelude.{Option, Some, None, is_err, slice_get}
use Rattle.std.specs.Option.{option_or}
use Rattle.pram_job.specs.declared.instr.Array.{Array}
use Rattle.text_lines.specs.Lines.{Word}
use Rattle.pram_text.specs.Judgement.{is_name, register_of}
use Rattle.job_text.specs.Printed.{ArrayWords, array_word, is_same}
use Rattle.pardo_program.specs.Program.{ArrayData, PrivateData, ProgramData, shared_cells}
use Rattle.pardo_flat.specs.Layouts.{cells_of_array, private_cells, program_layout}
use Rattle.naming.specs.Names.{NamingData}

-- a name, if the cells are just those of the array
abbrev pub name_if : Word → (cells array : Array) → Option Word
name_if name cells array = if is_same cells array then Some name else None

-- of the shared array that has just these cells
abbrev pub shared_name : List ArrayData → Array → Option Word
shared_name [] array = None
shared_name (held ∷ arrays) array =
    option_or (name_if held.name (cells_of_array held) array) (shared_name arrays array)

abbrev pub name_of_private : Option PrivateData → (cells array : Array) → Option Word
name_of_private None cells array = None
name_of_private (Some variable) cells array = name_if variable.name cells array

-- in whose row the array begins
abbrev pub array_row : ProgramData → Array → ℕ
array_row program array = (array.base - shared_cells program.arrays) / program.procs

-- of the private variable that has just these cells
abbrev pub private_name : ProgramData → Array → Option Word
private_name program array =
    if array.len == 0 then None
    else name_of_private (slice_get program.privates (array_row program array))
    (private_cells (program_layout program) (array_row program array)) array

abbrev pub variable_name : ProgramData → Array → Option Word
variable_name program array =
    option_or (shared_name program.arrays array) (private_name program array)

-- A register is no name of an array.
abbrev pub may_name : Word → Bool
may_name word = is_name word && is_err (register_of word)

abbrev pub word_of_array : Option Word → Array → Word
word_of_array None array = array_word array
word_of_array (Some name) array = if may_name name then name else array_word array

-- An array has the name of the program's variable that has just its cells, where it may.
abbrev pub array_words : Option NamingData → ArrayWords
array_words None = array_word
array_words (Some naming) = λ array. word_of_array (variable_name naming.program array) array
