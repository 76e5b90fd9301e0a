-- What taking from a source and putting into a sink do to the bytes that the source has left and
-- the sink holds, where those are known.
use Rattle.std.specs.Prelude.{ℕ, ◌<◌, List, Option, length}
use Rattle.std.specs.Io.{StartsWith}
use Rattle.std.specs.Io.KnownBytes.{Appends, Consumes, IsAtEnd}

-- All the bytes that the source had are these, and it is at its end.
abbrev pub Gives : Option (List ℕ) → Option (List ℕ) → List ℕ → Type 0
Gives source source' bytes = Consumes source source' bytes × IsAtEnd source'

-- The source stands after some bytes that it gave.
abbrev pub GivesSome : Option (List ℕ) → Option (List ℕ) → Type 0
GivesSome source source' = (read : List ℕ) × Consumes source source' read

-- It gave more bytes than this.
abbrev pub GivesMoreThan : ℕ → Option (List ℕ) → Option (List ℕ) → Type 0
GivesMoreThan most source source' =
    (read : List ℕ) × (most < length read) × Consumes source source' read

-- The sink took a beginning of the bytes.
abbrev pub AppendsBeginning : Option (List ℕ) → Option (List ℕ) → List ℕ → Type 0
AppendsBeginning sink sink' bytes =
    (front : List ℕ) × StartsWith bytes front × Appends sink sink' front
