use Rattle.std.proofs.Common.{◌≡◌, ◌/◌, ◌%◌, ◌<◌, ◌≤◌, List, [], length, slice_get, Some, refl, ap, sym, ◌∙◌, arith}
use Rattle.std.specs.Prelude.{slice_set}
use Rattle.std.proofs.lemmas.Option.{slice_get-get_or}
use Rattle.walk_memory.specs.declared.memo.Memo.{Memo}
use Rattle.walk_memory.specs.Lanes.{memos_of}
use Rattle.walk_memory.proofs.Lanes.{set_all, set_none}
use Rattle.walk_memory.proofs.Memories.{set_past}
use Rattle.walk_memory.proofs.memo.Memory.put.Goals as goal
use Rattle.walk_memory.proofs.memo.Memory.put.Goals.{in-Some+then-i-len, in-Some+else-i-len}
use Rattle.walk_memory.proofs.memo.Memory.put.Goals.{in-None}

pub returns : goal.returns
returns c = elim c.match-self.branch [
  | in-Some+then-i-len w ↦ (
      let items = w.in-Some.blocks.items in
      let q = c.args.i / 64 in
      let old = w.index_mut-block.result.now in
      let view : memos_of items ≡ c.args.self.now = rw w.in-Some.is at c.self.view_is in
      let low : q < length items =
      omega (arith, w.in-Some.blocks.ok, w.len.ensures, w.if-i-len.true) in
      let there : slice_get items q ≡ Some old =
      slice_get-get_or items q old low ∙ ap Some (sym w.index_mut-block.ensures.value) in
      rw w.self-inside-is (set_all items c.args.i q (c.args.i % 64) old w.set.new.self c.args.memo.now
      refl refl low there w.set.ensures.same w.set.ensures.others
      ∙ ap (λ (memory : List Memo). slice_set memory c.args.i c.args.memo.now) view))
  | in-Some+else-i-len w ↦ (
      let items = w.in-Some.blocks.items in
      let view : memos_of items ≡ c.args.self.now = rw w.in-Some.is at c.self.view_is in
      let past : length items ≤ c.args.i / 64 =
      omega (arith, w.in-Some.blocks.ok, w.len.ensures, w.if-i-len.false) in
      rw w.self-inside-is (set_none items c.args.i (c.args.i / 64) c.args.memo.now refl past
      ∙ ap (λ (memory : List Memo). slice_set memory c.args.i c.args.memo.now) view))
  | in-None w ↦ (
      let none : [] ≡ c.args.self.now = rw w.in-None.is at c.self.view_is in
      rw w.self-inside-is (c.self.view_is ∙ set_past c.args.self.now c.args.i c.args.memo.now
      (omega (arith, ap (λ (memory : List Memo). length memory) none))))
]
