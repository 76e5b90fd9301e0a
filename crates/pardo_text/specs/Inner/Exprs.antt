-- Expressions that were read one after another, the last one first.
use Rattle.std.specs.Prelude.{◌≡◌, ◌≢◌, List, ◌∷◌, drop, Result, Ok, Err}
use Rattle.pardo_text.specs.declared.fault.PardoKind.{PardoKind}
use Rattle.pardo_text.specs.declared.fault.PardoKind.TheVariants.{Memory}
use Rattle.pardo_program.specs.Expression.{Tree, first_of}
use Rattle.pardo_text.specs.Expressions.{Read}
use Rattle.pardo_text.specs.Tokens.{Token}

-- What a function returned is what reading gives, unless memory ran out: the tree that was read
-- stands on the others, and these tokens are left.
abbrev pub Adds : {X : Type 0} → List Tree → List Tree → List Token → Result X PardoKind →
    Read Tree → Type 0
Adds old new rest (Ok _) read = (new ≡ first_of new ∷ old) × (read ≡ Ok (first_of new, rest))
Adds old new rest (Err kind) read = kind ≢ Memory → read ≡ Err kind

-- What a function returned is what reading gives, unless memory ran out: the tree that was made of
-- the last two stands in their place.
abbrev pub Joins : {X : Type 0} → List Tree → List Tree → Result X PardoKind →
    Result Tree PardoKind → Type 0
Joins old new (Ok _) read = (new ≡ first_of new ∷ drop 2 old) × (read ≡ Ok (first_of new))
Joins old new (Err kind) read = kind ≢ Memory → read ≡ Err kind
