-- What a function returned is what reading gives.
use Rattle.std.specs.Prelude.{◌≡◌, ◌≢◌, Result, Ok, Err}
use Rattle.exercise_text.specs.declared.fault.ExerciseKind.{ExerciseKind}
use Rattle.exercise_text.specs.declared.fault.ExerciseKind.TheVariants.{Memory}

-- seen by view, unless memory ran out
abbrev pub GivesSeen : {X Y : Type 0} → (X → Y) → Result X ExerciseKind →
    Result Y ExerciseKind → Type 0
GivesSeen view (Ok value) read = read ≡ Ok (view value)
GivesSeen view (Err kind) read = kind ≢ Memory → read ≡ Err kind
