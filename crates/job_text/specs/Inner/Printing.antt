-- What is added to a text while a job is printed.
use Rattle.std.specs.Borrow.{Bor}
use Rattle.std.specs.Prelude.{ℕ, Bool, ◌==◌, if◌then◌else◌, List, [], ◌∷◌, ◌++◌, length, map}
use Rattle.std.specs.Prelude.{Option, Some, None}
use Rattle.std.specs.List.{flat_map, list_any, range_with_len, slice_split}
use Rattle.pram_job.specs.declared.instr.Array.{Array}
use Rattle.pram_job.specs.declared.instr.Instr.{Instr}
use Rattle.text_lines.specs.Lines.{Line}
use Rattle.job_text.specs.Printed.{is_aim, is_same}

-- words after another one, each after a blank
abbrev pub spaced : Line → List ℕ
spaced words = flat_map (λ word. 32 ∷ word) words

-- the arrays with one more, unless it is among them
abbrev pub with_new_array : List Array → Array → List Array
with_new_array arrays array =
    arrays ++ (if list_any (λ other. is_same other array) arrays then [] else array ∷ [])

-- the runs after a cell that holds 0, and none where there is no such cell
abbrev pub runs_after : Option (Bor (List ℕ)) → List (List ℕ)
runs_after None = []
runs_after (Some rest) = slice_split (λ value. value == 0) rest.now

-- for each instruction, whether one jumps to it
abbrev pub aims_of : List Instr → List Bool
aims_of code = map (is_aim code) (range_with_len 0 (length code))
