-- The entries of an exercise, and what stands in them.
use Rattle.std.specs.Prelude.{ℕ, ◌==◌, ◌^◌, ◌-◌, min, Bool, not, List, [], ◌∷◌}
use Rattle.std.specs.Prelude.{length, take, drop, codes, false, find, is_some, unwrap_or}
use Rattle.std.specs.Prelude.{if◌then◌else◌}
use Rattle.std.specs.Prelude.{Option, Some, None}
use Rattle.std.specs.Char.{is_ascii_digit}
use Rattle.std.specs.List.{list_all, position}
use Rattle.std.specs.Option.{option_and_then, option_map}
use Rattle.std.specs.Str.{bytes_eq}
use Rattle.std.specs.Str.Parse.{digits_value}
use Rattle.text_lines.specs.Lines.{Word, is_blank, words_of}
use Rattle.text_lines.specs.Words.{one_of}
use Rattle.pram_cost.specs.declared.pram.Pram.{Pram}
use Rattle.pram_cost.specs.Beyond.{model_named}
use Rattle.exercise_text.specs.declared.key.Key.{Key}
use Rattle.exercise_text.specs.declared.key.Key.TheVariants.{Gone}
use Rattle.exercise_text.specs.Keys.{key_place}

-- What a line says, the number of the line, and what follows its first word; of a part its lines,
-- each with a line feed after it.
pub record EntryData : Type 0 where
  pub key : Key
  pub number : ℕ
  pub text : List ℕ

-- ---- a line and its words

-- where the first byte of a kind stands, or the end
abbrev pub first_place : (ℕ → Bool) → List ℕ → ℕ
first_place is_of line = unwrap_or (position is_of line) (length line)

-- the first word ends before the first blank
abbrev pub first_word : List ℕ → Word
first_word line = take (first_place is_blank line) line

abbrev pub trimmed : List ℕ → List ℕ
trimmed line = drop (first_place (λ byte. not (is_blank byte)) line) line

-- what follows it after blanks
abbrev pub rest_of_word : List ℕ → List ℕ
rest_of_word line = trimmed (drop (first_place is_blank line) line)

-- ---- what entries say

-- the model that the one word of a text names
abbrev pub model_in : List ℕ → Option Pram
model_in text = option_and_then model_named (one_of (words_of text))

-- what follows `<=`
abbrev pub bar_in : List ℕ → Option (List ℕ)
bar_in text = if bytes_eq (first_word text) (codes "<=") then Some (rest_of_word text) else None

-- the number that digits spell, or the greatest of 64 bits where it is greater
abbrev pub digits_in : Word → Option ℕ
digits_in word =
    if list_all is_ascii_digit word then Some (min (digits_value 10 word) (2 ^ 64 - 1)) else None

-- the number that follows `<=`
abbrev pub number_after : List ℕ → Option ℕ
number_after text = option_and_then (λ bar. option_and_then digits_in (one_of (words_of bar)))
    (bar_in text)

-- it is the one word `allowed`
abbrev pub says_allowed : List ℕ → Bool
says_allowed text = elim (one_of (words_of text)) [
  | None ↦ false
  | Some word ↦ bytes_eq word (codes "allowed")
]

abbrev pub is_arrow : Word → Bool
is_arrow word = bytes_eq word (codes "->")

-- what the words of an input say behind `->`
abbrev pub answer_of : List Word → Option (List Word)
answer_of [] = None
answer_of (word ∷ words) = if is_arrow word then Some words else answer_of words

-- ---- of an exercise

abbrev pub has_key : Key → EntryData → Bool
has_key key entry = key_place entry.key == key_place key

-- the first entry of this key
abbrev pub first_entry : Key → List EntryData → Option EntryData
first_entry key entries = find (has_key key) entries

abbrev pub entry_text : Key → List EntryData → Option (List ℕ)
entry_text key entries = option_map (λ entry. entry.text) (first_entry key entries)

-- processors may leave in a run
abbrev pub may_leave : List EntryData → Bool
may_leave exercise = is_some (first_entry Gone exercise)
