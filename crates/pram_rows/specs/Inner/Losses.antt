-- Who was lost first.
use Rattle.std.specs.Prelude.{ℕ, nat_le, nat_lt, if◌then◌else◌, Option, Some, None}
use Rattle.pram_rows.specs.declared.fates.Lost.{Lost}

-- that one, or the other if it is of an earlier step
abbrev pub earlier : Option Lost → Lost → Option Lost
earlier None other = Some other
earlier (Some first) other = if nat_le first.step other.step then Some first else Some other

-- that one, if it is of a step before this one
abbrev pub if_before : Option Lost → ℕ → Option Lost
if_before None step = None
if_before (Some lost) step = if nat_lt lost.step step then Some lost else None
