-- The answer of a program as text, by its meaning; the number of steps is that of its job.
use Rattle.std.specs.Prelude.{◌≡◌, ℕ, ◌+◌, ◌-◌, ◌*◌, ◌/◌, ◌%◌, Bool, ◌&&◌, nat_le, nat_lt}
use Rattle.std.specs.Prelude.{if◌then◌else◌}
use Rattle.std.specs.Prelude.{List, [], ◌∷◌, ◌++◌, length, codes, decimal, Option, Some, None}
use Rattle.std.specs.List.{flat_map, range_with_len}
use Rattle.pardo_program.specs.Program.{ProgramData, ArrayData}
use Rattle.pram_step.specs.declared.answer.Dispute.{Dispute}
use Rattle.pardo_job.specs.Meaning.{after}
use Rattle.pardo_job.specs.Runs.{IsProgramEnd, IsProgramConflict, line_number}

-- what so many cells hold from this one on, each after a blank
abbrev pub values_text : (ℕ → ℕ) → ℕ → ℕ → List ℕ
values_text cells first count =
    flat_map (λ cell. codes " " ++ decimal (cells cell)) (range_with_len first count)

-- `A[1] = 3 4 8 9`, of an array of so many columns
abbrev pub row_line : (ℕ → ℕ) → ArrayData → ℕ → ℕ → List ℕ
row_line cells array width row = array.name ++ codes "[" ++ decimal row ++ codes "] ="
    ++ values_text cells (array.base + row * width) width ++ codes "\n"

-- the lines of an array of so many columns, if it has two indices
abbrev pub lines_of_width : (ℕ → ℕ) → ArrayData → Option ℕ → List ℕ
lines_of_width cells array None = array.name ++ codes " ="
    ++ values_text cells array.base (length array.start) ++ codes "\n"
lines_of_width cells array (Some width) =
    flat_map (row_line cells array width) (range_with_len 0 (length array.start / width))

-- `A = 3 4 8 9`; of an array of two indices a line for each row
abbrev pub array_lines : (ℕ → ℕ) → ArrayData → List ℕ
array_lines cells array = lines_of_width cells array array.width

-- `gone processor=7 line=7`
abbrev pub gone_line : ℕ → Option ℕ → List ℕ
gone_line i None = []
gone_line i (Some line) =
    codes "gone processor=" ++ decimal i ++ codes " line=" ++ decimal line ++ codes "\n"

-- the arrays, by what the cells hold, and the processors that are gone, by their lines
abbrev pub end_text : ProgramData → ℕ → (ℕ → ℕ) → (ℕ → Option ℕ) → List ℕ
end_text program steps cells gone = codes "done steps=" ++ decimal steps ++ codes "\n"
    ++ flat_map (array_lines cells) program.arrays
    ++ flat_map (λ i. gone_line i (gone i)) (range_with_len 0 program.procs)

-- `3`, or `1,2` of an array of two indices
abbrev pub index_text : Option ℕ → ℕ → List ℕ
index_text None index = decimal index
index_text (Some width) index = decimal (index / width) ++ codes "," ++ decimal (index % width)

-- `A[3]`, and of a scalar its name alone
abbrev pub place_text : ArrayData → ℕ → List ℕ
place_text array cell =
    if array.is_scalar then array.name
    else array.name ++ codes "[" ++ index_text array.width (cell - array.base) ++ codes "]"

abbrev pub has_cell : ArrayData → ℕ → Bool
has_cell array cell = nat_le array.base cell && nat_lt cell (array.base + length array.start)

-- the place of a shared cell
abbrev pub cell_text : List ArrayData → ℕ → List ℕ
cell_text [] cell = []
cell_text (array ∷ arrays) cell =
    if has_cell array cell then place_text array cell else cell_text arrays cell

-- `conflict line=7 place=sum processors=0,1`
abbrev pub conflict_text : ProgramData → ℕ → Dispute → List ℕ
conflict_text program line dispute = codes "conflict line=" ++ decimal line
    ++ codes " place=" ++ cell_text program.arrays dispute.cell
    ++ codes " processors=" ++ decimal dispute.first ++ codes "," ++ decimal dispute.second
    ++ codes "\n"

-- the text is the answer of the program, whose job makes so many steps
abbrev pub IsEndText : ProgramData → ℕ → List ℕ → Type 0
IsEndText program steps text = (n : ℕ) × IsProgramEnd program n
    × (text ≡ end_text program steps (after program n).cells (after program n).gone)

abbrev pub IsConflictText : ProgramData → List ℕ → Type 0
IsConflictText program text = (n : ℕ) × (dispute : Dispute) × IsProgramConflict program n dispute
    × (text ≡ conflict_text program (line_number program (after program n)) dispute)
