-- What the lines of a header are told by.
use Rattle.std.specs.Prelude.{ℕ, Bool, not, ◌||◌, ◌&&◌, ◌==◌, List, [], ◌∷◌, take, codes}
use Rattle.std.specs.Prelude.{if◌then◌else◌, Option, Some, None, false}
use Rattle.std.specs.Char.{is_ascii_alphanumeric}
use Rattle.std.specs.Str.{bytes_eq}
use Rattle.text_lines.specs.Lines.{Word, words_of, Line}
use Rattle.exercise_text.specs.Entries.{first_place}

-- a letter, a digit or `_`
abbrev pub is_in_name : ℕ → Bool
is_in_name byte = is_ascii_alphanumeric byte || (byte == 95)

-- the name with which a word begins
abbrev pub name_in : Word → Word
name_in word = take (first_place (λ byte. not (is_in_name byte)) word) word

abbrev pub declares : Word → Bool
declares word = bytes_eq word (codes "const") || bytes_eq word (codes "procs")
    || bytes_eq word (codes "shared") || bytes_eq word (codes "private")

abbrev pub key_in : Line → Option (Word × Word)
key_in [] = None
key_in (word ∷ []) = Some (word, [])
key_in (word ∷ second ∷ words) = Some (word, if declares word then name_in second else [])

-- The first word of a line, and the name that it declares, if it declares one.
abbrev pub line_key : List ℕ → Option (Word × Word)
line_key line = key_in (words_of line)

abbrev pub is_key : Word × Word → Option (Word × Word) → Bool
is_key key None = false
is_key key (Some other) = bytes_eq other.0 key.0 && bytes_eq other.1 key.1

-- the line is told by this
abbrev pub has_line_key : Word × Word → List ℕ → Bool
has_line_key key line = is_key key (line_key line)
