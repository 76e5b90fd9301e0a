-- What is told of an exercise: its entries, or why there is none.
use Rattle.std.specs.Prelude.{◌≡◌, ◌⊎◌, ℕ, ◌<◌, ◌==◌, if◌then◌else◌, List, length, map, Ok}
use Rattle.std.specs.List.{flat_map}
use Rattle.exercise_text.specs.declared.fault.ExerciseKind.{ExerciseKind}
use Rattle.exercise_text.specs.declared.fault.ExerciseKind.TheVariants as kind
use Rattle.exercise_text.specs.Entries.{EntryData}
use Rattle.exercise_text.specs.Keys.{key_place}
use Rattle.exercise_text.specs.Reading.{IsExerciseRefusal, exercise_of}
use Rattle.page_core.specs.declared.codes.TheConstants.{MEMORY, TEXT_MOST, TEXT_TOO_LONG}
use Rattle.page_core.specs.declared.exercise_codes.TheConstants.{NO_EXERCISE}
use Rattle.page_core.specs.declared.entries.EntryRow.{EntryRow}
use Rattle.page_core.specs.declared.entries.NoExercise.{NoExercise}
use Rattle.page_core.specs.declared.entries.NoExercise.TheVariants.{TextTooLong, Bad}
use Rattle.page_core.specs.declared.put.ExerciseTold.{ExerciseTold}
use Rattle.page_core.specs.Put.{ArePut, exercise_counted}

-- ---- entries

abbrev pub entry_row : EntryData → EntryRow
entry_row entry =
    record { line = entry.number; bytes = length entry.text; key = key_place entry.key }

-- the entries of the exercise that a text spells: their texts one after the other, and their rows
abbrev pub AreEntriesOf : List ℕ → List ℕ → List EntryRow → Type 0
AreEntriesOf text bytes rows = (exercise : List EntryData) × (exercise_of text ≡ Ok exercise)
    × (bytes ≡ flat_map (λ entry. entry.text) exercise) × (rows ≡ map entry_row exercise)

-- ---- why there is no exercise

abbrev pub TellsNoExercise : List ℕ → NoExercise → Type 0
TellsNoExercise text TextTooLong = TEXT_MOST < length text
TellsNoExercise text (Bad fault) = IsExerciseRefusal (exercise_of text) fault

-- out of memory is no fault
abbrev pub kind_code : ExerciseKind → ℕ
kind_code kind.Memory = 0
kind_code kind.NotAscii = 1
kind_code kind.BadHeader = 2
kind_code kind.UnknownKey = 3
kind_code kind.BadLine = 4
kind_code kind.Duplicate = 5
kind_code (kind.Missing key) = 6
kind_code kind.NoAnswer = 7

-- the key that a text lacks
abbrev pub key_lacked : ExerciseKind → ℕ
key_lacked (kind.Missing key) = key_place key
key_lacked _ = 0

abbrev pub no_exercise_told : NoExercise → ExerciseTold
no_exercise_told TextTooLong = exercise_counted TEXT_TOO_LONG 0 0
no_exercise_told (Bad fault) =
    if kind_code fault.kind == 0 then exercise_counted MEMORY 0 0
    else record (exercise_counted NO_EXERCISE 0 0) {
      line = fault.line;
      fault = kind_code fault.kind;
      lacks = key_lacked fault.kind;
    }

-- the entries are told, or why there are none
abbrev pub AreEntriesTold
    : List ℕ → List ℕ → List EntryRow → List ℕ → List EntryRow → ExerciseTold → Type 0
AreEntriesTold text old_bytes old_rows new_bytes new_rows told =
    ((bytes : List ℕ) × (rows : List EntryRow) × AreEntriesOf text bytes rows
    × ArePut bytes rows old_bytes old_rows new_bytes new_rows told)
    ⊎ ((why : NoExercise) × TellsNoExercise text why × (told ≡ no_exercise_told why))
