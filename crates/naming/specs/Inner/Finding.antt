-- Where lines of a text are looked for.
use Rattle.std.specs.Prelude.{◌≡◌, ℕ, List, drop}
use Rattle.text_lines.specs.Lines.{lines_of}
use Rattle.text_lines.specs.TextLines.{left_of, taken_of}
use Rattle.text_lines.specs.declared.text_lines.TextLines.{TextLines}
use Rattle.naming.specs.LineRecords.{numbered_line}

-- The lines of the text are taken up to this line, and the later ones are left.
pub record HasTaken (text : List ℕ) (lines : TextLines) (line : List ℕ) : Type 0 where
  pub left : left_of lines ≡ drop (taken_of lines) (lines_of text)
  pub here : line ≡ numbered_line text (taken_of lines)
