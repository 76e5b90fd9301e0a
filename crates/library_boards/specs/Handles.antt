-- What a handle owns: the box of its member, if it has one.
use Rattle.std.specs.Prelude.{Option, Some, None}
use Rattle.std.specs.Box.Ownership.{box_owns}
use Rattle.std.specs.Coded.{Coded, coded_option}
use Rattle.std.specs.Global.{Global}
use Rattle.std.specs.contracts.impls.GlobalAllocator.TheImpl.{ghosts}
use base.Fml.{Fml, ftrue}
use denote.RawPtr.{Ptr}
use Rattle.library_boards.specs.contracts.member.Member.{the_row}

abbrev pub MaybeMember : Type 0
MaybeMember = Option the_row.Denot

abbrev pub member_coded : Coded MaybeMember
member_coded = coded_option the_row.coded

abbrev pub handle_owns : Global → Ptr → MaybeMember → Fml
handle_owns alloc at None = ftrue
handle_owns alloc at (Some member) = box_owns (ghosts.dealloc_token alloc) the_row at member
