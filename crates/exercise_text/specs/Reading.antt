-- Reading: the entries of a text, or its first bad line and its fault.
use Rattle.std.specs.Prelude.{◌≡◌, ◌≢◌, ℕ, ◌+◌, ◌==◌, Bool, true, false, not, ◌&&◌, ◌||◌, List, []}
use Rattle.std.specs.Prelude.{◌∷◌}
use Rattle.std.specs.Prelude.{◌++◌, codes, find, is_some, is_none, if◌then◌else◌}
use Rattle.std.specs.Prelude.{Option, Some, None, Result, Ok, Err}
use Rattle.std.specs.List.{list_all, list_any}
use Rattle.std.specs.Str.{bytes_eq}
use Rattle.text_lines.specs.Lines.{is_allowed, is_blank, is_filled, lines_of, words_of}
use Rattle.text_lines.specs.Words.{two_of}
use Rattle.exercise_text.specs.declared.fault.ExerciseFault.{ExerciseFault}
use Rattle.exercise_text.specs.declared.fault.ExerciseKind.{ExerciseKind}
use Rattle.exercise_text.specs.declared.fault.ExerciseKind.TheVariants.{NotAscii, BadHeader}
use Rattle.exercise_text.specs.declared.fault.ExerciseKind.TheVariants.{UnknownKey, BadLine}
use Rattle.exercise_text.specs.declared.fault.ExerciseKind.TheVariants.{Duplicate, Missing}
use Rattle.exercise_text.specs.declared.fault.ExerciseKind.TheVariants.{NoAnswer, Memory}
use Rattle.exercise_text.specs.declared.key.Key.{Key}
use Rattle.exercise_text.specs.declared.key.Key.TheVariants as key
use Rattle.exercise_text.specs.Entries.{EntryData, answer_of, bar_in, first_entry, has_key}
use Rattle.exercise_text.specs.Entries.{model_in, number_after, rest_of_word, says_allowed}
use Rattle.exercise_text.specs.Entries.{first_word}
use Rattle.exercise_text.specs.Keys.{is_input, is_once, is_part, key_named}

-- ---- a line

-- What stands behind the first word is what that asks for.
abbrev pub is_lawful : Key → List ℕ → Bool
is_lawful key.Model text = is_some (model_in text)
is_lawful key.Time text = is_some (bar_in text)
is_lawful key.Operations text = is_some (bar_in text)
is_lawful key.Steps text = is_some (bar_in text)
is_lawful key.Lines text = is_some (number_after text)
is_lawful key.Want text = is_filled (words_of text)
is_lawful key.Gone text = says_allowed text
is_lawful key.Given text = not (is_filled (words_of text))
is_lawful key.Start text = not (is_filled (words_of text))
is_lawful key.Reference text = not (is_filled (words_of text))
is_lawful _ text = true

-- a line that begins with a blank, or is empty
abbrev pub is_indented : List ℕ → Bool
is_indented [] = true
is_indented (byte ∷ rest) = is_blank byte

abbrev pub is_note : List ℕ → Bool
is_note [] = false
is_note (byte ∷ rest) = byte == 59

-- what another line says, by its first word
abbrev pub key_of : List ℕ → Option Key
key_of line = if is_note line then Some key.Note else key_named (first_word line)

-- ---- lines one after another

-- the entries before the one to which indented lines belong, and that one
pub record DraftData : Type 0 where
  pub done : List EntryData
  pub last : EntryData

-- before all entries
abbrev pub no_entry : DraftData
no_entry = record { done = []; last = record { key = key.Note; number = 1; text = [] } }

abbrev pub entries_of : DraftData → List EntryData
entries_of draft = draft.done ++ draft.last ∷ []

-- an indented line belongs to the part that is open; elsewhere it says nothing
abbrev pub with_indented : List ℕ → DraftData → Result DraftData ExerciseKind
with_indented line draft =
    if is_part draft.last.key
    then Ok (record draft {
      last = record draft.last { text = draft.last.text ++ line ++ 10 ∷ [] };
    })
    else (if is_filled (words_of line) then Err BadLine else Ok draft)

abbrev pub tells_wanted : Key → DraftData → Bool
tells_wanted key draft =
    is_once key && (list_any (has_key key) draft.done || has_key key draft.last)

-- the text of a part are its lines
abbrev pub own_text : Key → List ℕ → List ℕ
own_text key text = if is_part key then [] else text

-- one entry more
abbrev pub with_entry : ℕ → Key → List ℕ → DraftData → Result DraftData ExerciseKind
with_entry number key text draft =
    if tells_wanted key draft then Err Duplicate
    else (if not (is_lawful key text) then Err BadLine
    else Ok (record {
      done = entries_of draft;
      last = record { key = key; number = number; text = own_text key text };
    }))

abbrev pub with_key : ℕ → Option Key → List ℕ → DraftData → Result DraftData ExerciseKind
with_key number None text draft = Err UnknownKey
with_key number (Some key) text draft = with_entry number key text draft

-- one line more, which has this number
unfoldable pub draft_with : ℕ → List ℕ → DraftData → Result DraftData ExerciseKind
draft_with number line draft =
    if not (list_all is_allowed line) then Err NotAscii
    else (if is_indented line then with_indented line draft
    else with_key number (key_of line) (rest_of_word line) draft)

-- ---- what a text lacks

abbrev pub has_no : List EntryData → Key → Bool
has_no entries key = is_none (first_entry key entries)

abbrev pub needed : List Key
needed = key.Title ∷ key.Want ∷ key.Given ∷ key.Start ∷ key.Input ∷ []

-- the first input that does not say what is wanted
abbrev pub is_unanswered : EntryData → Bool
is_unanswered entry = is_input entry.key && is_none (answer_of (words_of entry.text))

abbrev pub with_answers : Option EntryData → List EntryData → Result (List EntryData) ExerciseFault
with_answers None entries = Ok entries
with_answers (Some entry) entries = Err (record { line = entry.number; kind = NoAnswer })

abbrev pub complete : ℕ → Option Key → List EntryData → Result (List EntryData) ExerciseFault
complete number (Some key) entries = Err (record { line = number; kind = Missing key })
complete number None entries =
    if has_no entries key.Reference then with_answers (find is_unanswered entries) entries
    else Ok entries

unfoldable pub read_to_end : ℕ → List EntryData → Result (List EntryData) ExerciseFault
read_to_end number entries = complete number (find (has_no entries) needed) entries

-- ---- a text

abbrev pub then_line : Result DraftData ExerciseKind → ℕ →
    (DraftData → Result (List EntryData) ExerciseFault) → Result (List EntryData) ExerciseFault
then_line (Ok draft) number next = next draft
then_line (Err kind) number next = Err (record { line = number; kind = kind })

-- the exercise of a draft of so many lines and of these lines after it
abbrev pub exercise_after : DraftData → ℕ → List (List ℕ) → Result (List EntryData) ExerciseFault
exercise_after draft number [] = read_to_end number (entries_of draft)
exercise_after draft number (line ∷ lines) =
    then_line (draft_with (number + 1) line draft) (number + 1)
    (λ next. exercise_after next (number + 1) lines)

abbrev pub begins_exercise : List ℕ → Bool
begins_exercise line = elim (two_of (words_of line)) [
  | None ↦ false
  | Some words ↦ bytes_eq words.0 (codes "exercise") && bytes_eq words.1 (codes "1")
]

abbrev pub exercise_in : List (List ℕ) → Result (List EntryData) ExerciseFault
exercise_in [] = Err (record { line = 1; kind = BadHeader })
exercise_in (line ∷ lines) =
    if begins_exercise line then exercise_after no_entry 1 lines
    else Err (record { line = 1; kind = BadHeader })

-- The exercise that a text spells: its entries in their order; or its first bad line, and what is
-- wrong with it; or what it lacks.
unfoldable pub exercise_of : List ℕ → Result (List EntryData) ExerciseFault
exercise_of text = exercise_in (lines_of text)

-- A refusal names the fault. Out of memory it says nothing of it, and names line 0.
abbrev pub IsExerciseRefusal : Result (List EntryData) ExerciseFault → ExerciseFault → Type 0
IsExerciseRefusal read fault =
    (fault.kind ≢ Memory → read ≡ Err fault) × (fault.kind ≡ Memory → fault.line ≡ 0)
