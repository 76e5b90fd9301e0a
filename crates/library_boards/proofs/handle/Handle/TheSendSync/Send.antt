-- A handle may go to another thread: its member may, and so may the right to free the member's box.
use mir.Raw.{raw}
use base.Shift.{Keyless}
use denote.Memory.{lone}
use denote.Param.Send.{AllSend, IsSend, owning_send, sendable, struct_send}
use denote.RawPtr.{Ptr}
use denote.Struct.Owning.{fields, shape, to}
use denote.Struct.Struct.{exits_of}
use Rattle.std.proofs.Crossing as heap
use Rattle.std.proofs.alloc.Global.TheSendSync as global
use Rattle.std.specs.Global.{Global}
use Rattle.std.specs.Prelude.{None, Some}
use Rattle.std_alloc.proofs.SendSync.{lies, quiet}
use Rattle.library_boards.specs.Handles.{MaybeMember, handle_owns}
use Rattle.library_boards.specs.contracts.handle.Handle.{the_row, the_type}
use Rattle.library_boards.specs.contracts.member.Member as member
use Rattle.library_boards.proofs.member.Member.TheSendSync.{the_send as member_send}

goes : (alloc : Global) (at : Ptr) (kept : MaybeMember) → Keyless (handle_owns alloc at kept)
goes alloc at None = tt
goes alloc at (Some it) = (
  lies member.the_row member_send at it,
  heap.frees.frees alloc (raw (lone member.the_row.mir))
      at,
)

pub send : IsSend the_row
send =
    let all : AllSend (fields the_type) = (search sendable, (global.the_field_send, tt)) in
    owning_send the_type all (λ h. goes h.alloc h.at h.member)
    (λ k. quiet (to the_type) (exits_of k (fields the_type))
    ((struct_send (shape the_type) all).leaving k))
