-- The header of an exercise as the words of an input set it.
use Rattle.std.specs.Prelude.{ℕ, zero, suc, ◌==◌, Bool, false, not, ◌||◌, ◌&&◌}
use Rattle.std.specs.Prelude.{List, [], ◌∷◌, ◌++◌, take, drop, codes, decimal, find}
use Rattle.std.specs.Prelude.{if◌then◌else◌, Option, Some, None}
use Rattle.std.specs.List.{flat_map, list_any}
use Rattle.std.specs.Str.{bytes_eq}
use Rattle.text_lines.specs.Lines.{Line, Word, lines_of}
use Rattle.exercise_text.specs.Entries.{first_place, is_arrow}
use Rattle.exercise_text.specs.LineKeys.{line_key}
use Rattle.pardo_text.specs.Thrown.{seed_after, seed_with_bound, thrown_below}

-- ---- values that are thrown

-- so many values below `below`, thrown from a seed, each with what parts it from the next one
abbrev pub thrown_text : ℕ → ℕ → ℕ → List ℕ
thrown_text zero seed below = []
thrown_text (suc more) seed below =
    decimal (thrown_below below (seed_after seed)) ++ codes ", "
    ++ thrown_text more (seed_after seed) below

-- the seed and the bound of a text any:SEED:BELOW
abbrev pub any_in : List ℕ → Option (ℕ × ℕ)
any_in text = if bytes_eq (take 4 text) (codes "any:") then seed_with_bound (drop 4 text) else None

-- ---- what names are set to

abbrev pub equals_at : List ℕ → ℕ
equals_at word = first_place (λ byte. byte == 61) word

-- what stands before the first `=` of a word, and after it
abbrev pub before_equals : List ℕ → List ℕ
before_equals word = take (equals_at word) word

abbrev pub after_equals : List ℕ → List ℕ
after_equals word = drop 1 (drop (equals_at word) word)

-- what a name is set to by the first word NAME=TEXT before `->`
abbrev pub input_set_to : Line → Word → Option (List ℕ)
input_set_to [] name = None
input_set_to (word ∷ words) name =
    if is_arrow word then None
    else (if bytes_eq (before_equals word) name then Some (after_equals word)
    else input_set_to words name)

-- how many places an array has
pub record SizeData : Type 0 where
  pub name : Word
  pub places : ℕ

abbrev pub size_named : List SizeData → Word → Option SizeData
size_named sizes name = find (λ size. bytes_eq size.name name) sizes

-- where it is not known, one
abbrev pub array_places : List SizeData → Word → ℕ
array_places sizes name = elim (size_named sizes name) [
  | None ↦ 1
  | Some size ↦ size.places
]

-- what stands for the values: as many thrown ones as places, or what the text says
abbrev pub values_as_text : ℕ → List ℕ → List ℕ
values_as_text places text = elim (any_in text) [
  | None ↦ text
  | Some any ↦ thrown_text places any.0 any.1 ++ codes "..."
]

-- ---- lines that are set

abbrev pub is_settable : Word → Bool
is_settable word = bytes_eq word (codes "const") || bytes_eq word (codes "shared")

abbrev pub before_comment : List ℕ → List ℕ
before_comment line = take (first_place (λ byte. byte == 59) line) line

abbrev pub with_values : List ℕ → ℕ → Option (List ℕ) → List ℕ
with_values line places None = line
with_values line places (Some text) =
    before_equals (before_comment line) ++ codes "= " ++ values_as_text places text

-- A line that declares a constant or an array has what its name is set to in the place of its own
-- values. All other lines stay.
abbrev pub line_as_input : List SizeData → Line → List ℕ → List ℕ
line_as_input sizes words line = elim (line_key line) [
  | None ↦ line
  | Some key ↦ if is_settable key.0
      then with_values line (array_places sizes key.1) (input_set_to words key.1) else line
]

-- the lines as they are set, each with a line feed after it
unfoldable pub text_as_input : List SizeData → Line → List ℕ → List ℕ
text_as_input sizes words text =
    flat_map (λ line. line_as_input sizes words line ++ 10 ∷ []) (lines_of text)

-- ---- words that set nothing

-- the line declares what a word NAME=TEXT sets
abbrev pub is_settable_by : Word → List ℕ → Bool
is_settable_by word line = elim (line_key line) [
  | None ↦ false
  | Some key ↦ is_settable key.0 && bytes_eq (before_equals word) key.1
]

-- none of the lines does
abbrev pub sets_none : List (List ℕ) → Word → Bool
sets_none lines word = not (list_any (is_settable_by word) lines)

-- the words of an input before the first `->`, and those behind it
abbrev pub input_settings : Line → Line
input_settings [] = []
input_settings (word ∷ words) = if is_arrow word then words else word ∷ input_settings words

-- the first of them that sets no name that the header declares
abbrev pub unknown_word : List ℕ → Line → Option Word
unknown_word text words = find (sets_none (lines_of text)) (input_settings words)
