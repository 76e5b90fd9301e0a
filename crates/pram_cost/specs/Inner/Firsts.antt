-- The first of the first meetings of two kinds.
use Rattle.std.specs.Prelude.{Option, Some, None, if◌then◌else◌, nat_lt, option_map}
use Rattle.pram_cost.specs.declared.beyond.Beyond.{Beyond}
use Rattle.pram_cost.specs.declared.meeting.Meeting.{Meeting}
use Rattle.pram_cost.specs.declared.meeting.Sharing.{Sharing}
use Rattle.pram_cost.specs.declared.meeting.Sharing.TheVariants.{SameRead, SameWrite}

-- a meeting of this kind
abbrev pub so : Sharing → Option Meeting → Option Beyond
so sharing found = option_map (λ meeting. record { sharing = sharing; meeting = meeting }) found

-- where processors read a cell, or where they write one in an earlier step
abbrev pub sooner_of : Option Meeting → Option Meeting → Option Beyond
sooner_of None write = so SameWrite write
sooner_of (Some read) None = so SameRead (Some read)
sooner_of (Some read) (Some write) =
    if nat_lt write.step read.step then so SameWrite (Some write) else so SameRead (Some read)
