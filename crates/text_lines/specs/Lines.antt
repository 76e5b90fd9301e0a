-- The lines of a text, and the words of a line.
use Rattle.std.specs.Prelude.{◌≡◌, ℕ, Bool, true, false, ◌&&◌, ◌||◌, ◌==◌}
use Rattle.std.specs.Prelude.{nat_le, List, [], ◌∷◌, ◌++◌, filter, map}
use Rattle.std.specs.List.{slice_split, before_first, enumerate_from}

abbrev pub Word : Type 0
Word = List ℕ

-- a line as its words
abbrev pub Line : Type 0
Line = List Word

-- The lines lie between the line feeds.
abbrev pub lines_of : List ℕ → List (List ℕ)
lines_of text = slice_split (λ byte. byte == 10) text

-- tab, carriage return, and what can be printed
unfoldable pub is_allowed : ℕ → Bool
is_allowed byte = (byte == 9) || (byte == 13) || (nat_le 32 byte && nat_le byte 126)

abbrev pub is_blank : ℕ → Bool
is_blank byte = (byte == 32) || (byte == 9) || (byte == 13)

abbrev pub is_filled : {X : Type 0} → List X → Bool
is_filled [] = false
is_filled (first ∷ rest) = true

-- what stands before the first semicolon
abbrev pub said_in : List ℕ → List ℕ
said_in line = before_first (λ byte. byte == 59) line

-- The words lie between the blanks of what is said.
unfoldable pub words_of : List ℕ → Line
words_of line = filter is_filled (slice_split is_blank (said_in line))

-- the lines that have words
abbrev pub worded : List (List ℕ) → List Line
worded lines = filter is_filled (map words_of lines)

-- the lines that have words, each with its number among all lines, counted from 1
abbrev pub numbered : List (List ℕ) → List (ℕ × Line)
numbered lines = filter (λ entry. is_filled entry.1) (enumerate_from 1 (map words_of lines))

-- `other` is `text` with another line in the place of this one
pub record HasOtherLine (text other line other_line : List ℕ) : Type 0 where
  pub before : List (List ℕ)
  pub after : List (List ℕ)
  pub lines : lines_of text ≡ before ++ line ∷ after
  pub other_lines : lines_of other ≡ before ++ other_line ∷ after
