use Rattle.std.proofs.Common.{◌≡◌, take}
use Rattle.std.specs.Prelude.{fold}
use Rattle.naming.specs.Inner.Places.{read_on}
use Rattle.naming.proofs.places.last_number.Given as goal

-- the number of the bytes so far
abbrev pub invariant-loop-byte : goal.invariant-loop-byte
invariant-loop-byte l = l.number ≡ fold read_on 0 (take l.byte-index l.place)
