use Rattle.std.proofs.Common.{◌≡◌, ◌+◌, ◌*◌, ◌<◌, ◌≤◌, ℕ, List, length, slice_get, Some, subst}
use Rattle.std.specs.Prelude.{IfNone, IfSome}
use Rattle.std.specs.Slice.{IsItemAt}
use Rattle.walk_memory.specs.declared.memo.Memo.{Memo}
use Rattle.walk_memory.specs.Lanes.{lane, memos_of}
use Rattle.walk_memory.proofs.Lanes.{found_none, found_some}
use Rattle.walk_memory.proofs.memo.Memory.block.Goals as goal

pub returns-in-Some-clause-some : goal.returns-in-Some-clause-some
returns-in-Some-clause-some c =
    let items = c.in-Some.blocks.items in
    let found : IsItemAt items c.args.q c.get.result =
    rw c.deref.ensures.value at c.get.ensures.lookup in
    let view : memos_of items ≡ c.args.self.now = rw c.in-Some.is at c.self.view_is in
    subst (λ (memory : List Memo). IfSome c.get.result (λ block. (k : ℕ) → k < 64 →
    slice_get memory (64 * c.args.q + k) ≡ Some (lane block.now k))) view
    (found_some items c.args.q c.get.result found)

pub returns-in-Some-clause-none : goal.returns-in-Some-clause-none
returns-in-Some-clause-none c =
    let items = c.in-Some.blocks.items in
    let found : IsItemAt items c.args.q c.get.result =
    rw c.deref.ensures.value at c.get.ensures.lookup in
    let view : memos_of items ≡ c.args.self.now = rw c.in-Some.is at c.self.view_is in
    subst (λ (memory : List Memo). IfNone c.get.result (length memory ≤ 64 * c.args.q)) view
    (found_none items c.args.q c.get.result found)
