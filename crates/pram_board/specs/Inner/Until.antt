-- How far a worker goes on.
use Rattle.std.specs.Prelude.{◌≡◌, ◌⊎◌, ◌==◌, ◌≤◌, ℕ, Bool, false, nat_le, Option, Some, None}
use Rattle.walkx.specs.Walk.{Walking, end_of}
use Rattle.pram_board.specs.declared.until.Until.{Until}
use Rattle.pram_board.specs.declared.until.Until.TheVariants.{End, Most, Least}
use Rattle.pram_board.specs.declared.work.Stay.{Stay}
use Rattle.pram_board.specs.Worked.{StaysAfter, StaysAs}

abbrev pub until_of : Option ℕ → Until
until_of None = End
until_of (Some most) = Most most

abbrev pub limit_in : Until → Option ℕ
limit_in End = None
limit_in (Most most) = Some most
limit_in (Least least) = None

-- it goes no further after so many ticks
abbrev pub is_reached : Until → ℕ → Bool
is_reached End ticks = false
is_reached (Most most) ticks = most == ticks
is_reached (Least least) ticks = nat_le least ticks

-- one that goes by turns ends by a tick before it has come so far
abbrev pub EndsSoon : Until → ℕ → Walking → Type 0
EndsSoon End ticks now = Unit {0}
EndsSoon (Most most) ticks now = Unit {0}
EndsSoon (Least least) ticks now = (end_of now.now ≡ None) ⊎ (ticks ≤ least)

-- how it ended after so many ticks
abbrev pub StaysUntil : Until → ℕ → Walking → Stay → Type 0
StaysUntil End = StaysAs None
StaysUntil (Most most) = StaysAs (Some most)
StaysUntil (Least least) = StaysAfter least
