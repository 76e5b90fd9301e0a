-- What parts of a reading come to.
use Rattle.std.specs.Prelude.{Result, Ok, Err}

-- what the next part says of the value of the part before it, unless that part has a fault
infixl 10 ◌>>=◌
abbrev pub ◌>>=◌ : {A B Fault : Type 0} → Result A Fault → (A → Result B Fault) → Result B Fault
(Ok value) >>= next = next value
(Err fault) >>= next = Err fault
