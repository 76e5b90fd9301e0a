-- The header of an exercise as an input sets it, and what it says.
use Rattle.std.specs.Prelude.{◌≡◌, ◌≢◌, ℕ, List, [], ◌++◌, codes, length, map, slice_index}
use Rattle.std.specs.Prelude.{Result, Ok, Err}
use Rattle.text_lines.specs.Lines.{Line}
use Rattle.text_lines.specs.Reads.{◌>>=◌}
use Rattle.pardo_program.specs.Program.{ArrayData, ProgramData}
use Rattle.pardo_text.specs.declared.fault.PardoFault.{PardoFault}
use Rattle.pardo_text.specs.declared.fault.PardoKind.TheVariants.{Memory}
use Rattle.pardo_text.specs.Reading.{program_of}
use Rattle.exercise_text.specs.Sets.{SizeData, text_as_input}
use Rattle.exercise_text.specs.Values.{array_start}

-- a header, with one scalar more that starts with the value of an expression, as a program
abbrev pub header_text : List ℕ → List ℕ → List ℕ
header_text header value =
    header ++ codes "shared _ = " ++ value ++ codes "\ncode\n_ := 0\n"

abbrev pub header_of : List ℕ → List ℕ → Result ProgramData PardoFault
header_of header value = program_of (header_text header value)

-- the value of an expression over the constants of a header
abbrev pub expression_value : List ℕ → List ℕ → Result ℕ PardoFault
expression_value header value = do
  program ← header_of header value
  Ok (slice_index (array_start program.arrays (codes "_")) 0)

-- how many places each array has
abbrev pub array_size : ArrayData → SizeData
array_size array = record { name = array.name; places = length array.start }

-- The header as words set it: as many values are thrown for an array as it has places.
abbrev pub header_as_set : List ℕ → Line → Result (List ℕ) PardoFault
header_as_set given words = do
  program ← header_of (text_as_input [] words given) (codes "0")
  Ok (text_as_input (map array_size program.arrays) words given)

-- this fault says why it is not, unless memory ran out
abbrev pub IsWhyRefused : {X : Type 0} → Result X PardoFault → PardoFault → Type 0
IsWhyRefused spelled fault = fault.kind ≢ Memory → spelled ≡ Err fault
