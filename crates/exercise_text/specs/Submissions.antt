-- A submission with the header of the exercise.
use Rattle.std.specs.Prelude.{ℕ, Bool, false, not, ◌||◌, List, [], ◌∷◌, ◌++◌, codes}
use Rattle.std.specs.Prelude.{find, unwrap_or, count_by, if◌then◌else◌, Option, Some, None}
use Rattle.std.specs.List.{flat_map, list_any}
use Rattle.std.specs.Str.{bytes_eq}
use Rattle.text_lines.specs.Lines.{Word, is_filled, lines_of, words_of}
use Rattle.text_lines.specs.Words.{one_of}
use Rattle.exercise_text.specs.LineKeys.{declares, has_line_key, line_key}

-- a word with which only lines of a header begin
abbrev pub is_header_word : Word → Bool
is_header_word word =
    bytes_eq word (codes "pardo") || bytes_eq word (codes "rule") || declares word

-- The given line that is told by the same stands in the place of the submission's; all others stay.
abbrev pub line_judged : List (List ℕ) → List ℕ → List ℕ
line_judged given line = elim (line_key line) [
  | None ↦ line
  | Some key ↦ if is_header_word key.0 then unwrap_or (find (has_line_key key) given) line
      else line
]

-- the text that is judged, with a line feed after each line
unfoldable pub judged_text : List ℕ → List ℕ → List ℕ
judged_text given submission =
    flat_map (λ line. line_judged (lines_of given) line ++ 10 ∷ []) (lines_of submission)

-- no line is told by what this one is told by
abbrev pub is_missing : List (List ℕ) → List ℕ → Bool
is_missing lines line = elim (line_key line) [
  | None ↦ false
  | Some key ↦ not (list_any (has_line_key key) lines)
]

-- the first given line that the submission does not have
abbrev pub missing_line : List ℕ → List ℕ → Option (List ℕ)
missing_line given submission = find (is_missing (lines_of submission)) (lines_of given)

abbrev pub begins_code : List ℕ → Bool
begins_code line = elim (one_of (words_of line)) [
  | None ↦ false
  | Some word ↦ bytes_eq word (codes "code")
]

abbrev pub after_code : List (List ℕ) → List (List ℕ)
after_code [] = []
after_code (line ∷ lines) = if begins_code line then lines else after_code lines

-- how many lines with words stand after `code`
abbrev pub code_lines : List ℕ → ℕ
code_lines text = count_by (λ line. is_filled (words_of line)) (after_code (lines_of text))
