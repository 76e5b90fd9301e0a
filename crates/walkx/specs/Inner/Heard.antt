-- The answers that a worker or a reader heard, by the fields of the code.
use Rattle.std.specs.Prelude.{ℕ, zero, suc, List, [], ◌∷◌, slice_index}

-- the first so many of a list, the last of them first
abbrev pub newest : ℕ → List ℕ → List ℕ
newest zero answers = []
newest (suc count) answers = slice_index answers count ∷ newest count answers
