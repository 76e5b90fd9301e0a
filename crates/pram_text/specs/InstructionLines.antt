-- On which line of a text an instruction stands.
use Rattle.std.specs.Prelude.{ℕ, List, map, slice_index}
use Rattle.text_lines.specs.Lines.{lines_of}
use Rattle.pram_text.specs.Text.{numbered_body}

-- the numbers of the lines with instructions, in order; lines count from 1
abbrev pub instruction_lines : List ℕ → List ℕ
instruction_lines text = map (λ entry. entry.0) (numbered_body (lines_of text))

-- the number of the line of the instruction of this index, or 0 if there is none
abbrev pub line_of : List ℕ → ℕ → ℕ
line_of text index = slice_index (instruction_lines text) index
