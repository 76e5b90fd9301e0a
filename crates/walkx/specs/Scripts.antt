-- A script: operations, of which each next one is a function of the answers before it, and what
-- comes of them.
use Rattle.std.specs.Prelude.{ℕ, List, [], ◌∷◌, ◌++◌, Option, Some, None}
use Rattle.walkx.specs.declared.operation.Op.{Op}

pub data Script (R : Type 0) : Type 0 where
  asks : Op → (ℕ → Script R) → Script R
  ends : R → Script R

-- the rest of a script after an answer
abbrev pub rest_after : {R : Type 0} → Script R → ℕ → Script R
rest_after (asks op next) found = next found
rest_after (ends result) found = ends result

-- the rest after these answers, the newest first
abbrev pub rest : {R : Type 0} → Script R → List ℕ → Script R
rest script [] = script
rest script (found ∷ earlier) = rest_after (rest script earlier) found

-- the operation that stands first
abbrev pub first_op : {R : Type 0} → Script R → Option Op
first_op (asks op next) = Some op
first_op (ends result) = None

-- the operations that these answers were given to, with the answers, the newest first
abbrev pub op_with : {R : Type 0} → Script R → ℕ → List (Op × ℕ)
op_with (asks op next) found = (op, found) ∷ []
op_with (ends result) found = []

abbrev pub heard_in : {R : Type 0} → Script R → List ℕ → List (Op × ℕ)
heard_in script [] = []
heard_in script (found ∷ earlier) = op_with (rest script earlier) found ++ heard_in script earlier
