-- The places of a program's cells, and how the number in one is read.
use Rattle.std.specs.Prelude.{◌≡◌, ◌≤◌, ℕ, ◌+◌, ◌*◌, ◌-◌, ◌^◌, ◌==◌, ◌&&◌}
use Rattle.std.specs.Prelude.{List, length, nat_le, nat_lt}
use Rattle.std.specs.Prelude.{if◌then◌else◌}
use Rattle.pardo_program.specs.Program.{ArrayData}
use Rattle.pram_job.specs.declared.instr.Array.{Array}
use Rattle.naming.specs.ArrayNames.{shared_name}
use Rattle.pardo_job.specs.Printed.{cell_text}

-- an array that begins with the cell has the same name among those arrays as among these
abbrev pub NameAlike : List ArrayData → List ArrayData → ℕ → Type 0
NameAlike those arrays cell =
    (array : Array) → array.base ≡ cell → shared_name those array ≡ shared_name arrays array

-- the text is that of the cell's place
abbrev pub IsPlaceText : List ArrayData → List ℕ → ℕ → Type 0
IsPlaceText arrays place cell = (1 ≤ length place) × (cell_text arrays cell ≡ place)

-- a number below 2^32 with one digit more
abbrev pub with_digit : (number digit : ℕ) → ℕ
with_digit number digit = if nat_lt number (2 ^ 32) then 10 * number + digit else number

-- the number so far, after one byte more: a bracket begins a number
abbrev pub read_on : (number byte : ℕ) → ℕ
read_on number byte =
    if byte == 91 then 0
    else (if nat_le 48 byte && nat_le byte 57 then with_digit number (byte - 48) else number)
