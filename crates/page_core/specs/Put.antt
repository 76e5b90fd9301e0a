-- How bytes and rows are put into buffers.
use Rattle.std.specs.Prelude.{◌≡◌, ◌⊎◌, ℕ, ◌<◌, ◌==◌, if◌then◌else◌, List, length, take, drop}
use Rattle.page_core.specs.declared.codes.TheConstants.{DONE, NO_ROOM}
use Rattle.page_core.specs.declared.put.ExerciseTold.{ExerciseTold}

-- a code, so many bytes and so many rows
abbrev pub exercise_counted : ℕ → ℕ → ℕ → ExerciseTold
exercise_counted code bytes rows =
    record { line = 0; bytes = bytes; rows = rows; code = code; fault = 0; lacks = 0 }

-- how many bytes and how many rows were written
abbrev pub exercise_bytes_told : ExerciseTold → ℕ
exercise_bytes_told told = if told.code == DONE then told.bytes else 0

abbrev pub exercise_rows_told : ExerciseTold → ℕ
exercise_rows_told told = if told.code == DONE then told.rows else 0

-- what lies after the first so many elements is as it was
abbrev pub IsTailKept : {X : Type 0} → ℕ → List X → List X → Type 0
IsTailKept count old new = drop count new ≡ drop count old

-- both stand at the fronts of their buffers, or one of the buffers is too small
abbrev pub ArePut : {X : Type 0} → List ℕ → List X → List ℕ → List X → List ℕ → List X →
    ExerciseTold → Type 0
ArePut bytes rows old_bytes old_rows new_bytes new_rows told =
    ((told ≡ exercise_counted DONE (length bytes) (length rows))
    × (take (length bytes) new_bytes ≡ bytes) × (take (length rows) new_rows ≡ rows))
    ⊎ ((told ≡ exercise_counted NO_ROOM (length bytes) (length rows))
    × ((length old_bytes < length bytes) ⊎ (length old_rows < length rows)))

-- the bytes stand at the front of their buffer, or it is too small
abbrev pub IsTextPut : List ℕ → List ℕ → List ℕ → ExerciseTold → Type 0
IsTextPut bytes old new told =
    ((told ≡ exercise_counted DONE (length bytes) 0) × (take (length bytes) new ≡ bytes))
    ⊎ ((told ≡ exercise_counted NO_ROOM (length bytes) 0) × (length old < length bytes))
