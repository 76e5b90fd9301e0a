-- What is left of a text up to the line of an instruction.
use Rattle.std.specs.Prelude.{◌≡◌, ℕ, List, ◌∷◌, map, drop, filter, slice_index}
use Rattle.std.specs.List.{after_first, enumerate_from}
use Rattle.pram_text.specs.Judgement.{is_code}
use Rattle.text_lines.specs.Lines.{Line, is_filled, words_of}
use Rattle.pram_text.specs.declared.lines.Ahead.{Ahead}
use Rattle.pram_text.specs.declared.lines.Ahead.TheVariants.{Header, Body}

-- the lines with words, each with its number, where the first of all has this one
abbrev pub numbered_from : ℕ → List (List ℕ) → List (ℕ × Line)
numbered_from number lines =
    filter (λ entry. is_filled entry.1) (enumerate_from number (map words_of lines))

-- the line of the instruction of this index, among lines with words
abbrev pub line_among : List (ℕ × Line) → ℕ → ℕ
line_among entries index = slice_index (map (λ entry. entry.0) entries) index

-- the line of the instruction of this index, by what is left before it
abbrev pub line_ahead : ℕ → Ahead → List (ℕ × Line) → ℕ
line_ahead index (Header lines) entries =
    line_among (after_first (λ entry. is_code entry.1) (drop lines entries)) index
line_ahead index (Body instructions) entries = line_among entries instructions

-- a line with these words more leaves this
abbrev pub SkipsLine : ℕ → Ahead → Line → Ahead → Type 0
SkipsLine index ahead words left =
    (number : ℕ) (entries : List (ℕ × Line)) →
    line_ahead index ahead ((number, words) ∷ entries) ≡ line_ahead index left entries
