-- Settings as the code makes them.
use Rattle.std.specs.Prelude.{◌≡◌, ◌≢◌, ℕ, ◌==◌, List, [], ◌∷◌, ◌++◌, Option, Some, None}
use Rattle.std.specs.Prelude.{Result, Ok, Err}
use Rattle.std.specs.Borrow.{Bor}
use Rattle.std.specs.List.{slice_split}
use Rattle.pardo_program.specs.Program.{ArrayData, ProgramData}
use Rattle.pardo_text.specs.declared.settings.SetKind.{SetKind}
use Rattle.pardo_text.specs.declared.settings.SetKind.TheVariants.{Memory}

-- What a function returned, seen by view, is what the settings say, unless memory ran out.
abbrev pub GivesAsSet : {X Y : Type 0} → (X → Y) → Result X SetKind → Result Y SetKind → Type 0
GivesAsSet view (Ok value) read = read ≡ Ok (view value)
GivesAsSet view (Err kind) read = kind ≢ Memory → read ≡ Err kind

-- the fields after a comma, and none where there is no comma
abbrev pub fields_left : Option (Bor (List ℕ)) → List (List ℕ)
fields_left None = []
fields_left (Some rest) = slice_split (λ b. b == 44) rest.now

-- lines, each after what parts it from the one before
abbrev pub parted_lines : List ℕ → List (List ℕ) → List ℕ
parted_lines before [] = []
parted_lines before (line ∷ lines) = before ++ line ++ parted_lines (10 ∷ []) lines

abbrev pub set_arrays : Option ProgramData → List ArrayData
set_arrays None = []
set_arrays (Some program) = program.arrays
