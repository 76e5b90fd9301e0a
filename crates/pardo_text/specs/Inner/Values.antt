-- Values that are read one after another.
use Rattle.std.specs.Prelude.{ℕ, Bool, List, ◌++◌, Result, Ok, Err}
use Rattle.pardo_text.specs.declared.fault.PardoKind.{PardoKind}

-- values with these in front
abbrev pub after_values : List ℕ → Result (List ℕ × Bool) PardoKind →
    Result (List ℕ × Bool) PardoKind
after_values front (Ok values) = Ok (front ++ values.0, values.1)
after_values front (Err kind) = Err kind
