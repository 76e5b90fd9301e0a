-- Where a word ends, and lines of so many words.
use Rattle.std.specs.Prelude.{ℕ, Bool, ◌||◌, ◌==◌, [], ◌∷◌, Option, Some, None}
use Rattle.text_lines.specs.Lines.{Word, Line, is_blank}

-- a word ends before such a byte
abbrev pub ends_word : ℕ → Bool
ends_word byte = is_blank byte || (byte == 59)

-- the word of a line of one word
abbrev pub one_of : Line → Option Word
one_of (word ∷ []) = Some word
one_of _ = None

-- the words of a line of two
abbrev pub two_of : Line → Option (Word × Word)
two_of (first ∷ second ∷ []) = Some (first, second)
two_of _ = None

-- the words of a line of three
abbrev pub three_of : Line → Option (Word × Word × Word)
three_of (first ∷ second ∷ third ∷ []) = Some (first, second, third)
three_of _ = None

-- the words of a line of four
abbrev pub four_of : Line → Option (Word × Word × Word × Word)
four_of (first ∷ second ∷ third ∷ fourth ∷ []) = Some (first, second, third, fourth)
four_of _ = None

-- the first two words, and those after them
abbrev pub two_first_of : Line → Option (Word × Word × Line)
two_first_of (first ∷ second ∷ words) = Some (first, second, words)
two_first_of _ = None
