use Rattle.std.proofs.Common.{◌≡◌, ◌+◌, ◌-◌, ◌*◌, ◌/◌, ◌<◌, ◌≤◌, List, [], length, slice_get, slice_index, Some}
use Rattle.std.proofs.Common.{sym, ap, ◌∙◌, arith}
use Rattle.std.proofs.lemmas.Option.{slice_get-get_or}
use Rattle.walk_memory.specs.declared.memo.Memo.{Memo}
use Rattle.walk_memory.specs.Inner.Posts.{processor_of}
use Rattle.walk_memory.specs.Lanes.{memos_of}
use Rattle.walk_memory.specs.Plain.{loaded, taken}
use Rattle.walk_memory.proofs.Lanes.{length_all}
use Rattle.walk_memory.proofs.Done.{done_past, row_done}
use Rattle.walk_memory.proofs.memo.Memory.take_loads.Goals as goal
use Rattle.walk_memory.proofs.memo.Memory.take_loads.Goals.{in-Some+then-q-len, in-Some+else-q-len}
use Rattle.walk_memory.proofs.memo.Memory.take_loads.Goals.{in-None}

pub returns : goal.returns
returns c =
    let at = c.args.leaf.now in
    let memory = c.args.self.now in
    let values = c.args.values.now in
    let r = c.args.register in
    let lanes = c.lanes_to-lanes.result in
    let on = c.lanes_to-lanes.ensures in
    let q = lanes.first / 64 in
    let n = c.args.end - at.rank in
    elim c.match-self.branch [
      | in-Some+then-q-len w ↦ (
          let items = w.in-Some.blocks.items in
          let old = w.index_mut-block.result.now in
          let low : q < length items =
          omega (arith, w.in-Some.blocks.ok, w.len.ensures, w.if-q-len.true) in
          let there : slice_get items q ≡ Some old =
          slice_get-get_or items q old low ∙ ap Some (sym w.index_mut-block.ensures.value) in
          let view : memos_of items ≡ memory = rw w.in-Some.is at c.self.view_is in
          let first : 64 * q + lanes.start ≡ processor_of at = omega (arith, on.row, on.start) in
          let all : lanes.start + n ≡ lanes.end = omega (arith, on.end, c.requires.later) in
          rw w.self-inside-is (row_done at items q lanes.start lanes.end old w.take_loads.new.block
          low there first lanes.within (λ memo k. loaded at memo r (slice_index values k))
          w.take_loads.ensures.there
          w.take_loads.ensures.before w.take_loads.ensures.after n all
          ∙ ap (λ (m : List Memo). taken at n r values m) view))
      | in-Some+else-q-len w ↦ (
          let items = w.in-Some.blocks.items in
          let view : memos_of items ≡ memory = rw w.in-Some.is at c.self.view_is in
          let past : length memory ≤ processor_of at =
          omega (
            arith,
            w.in-Some.blocks.ok,
            w.len.ensures,
            w.if-q-len.false,
            length_all items,
            ap (λ (m : List Memo). length m) view,
            on.row,
          ) in
          rw w.self-inside-is (view ∙ done_past at memory _ n past))
      | in-None w ↦ (
          let none : [] ≡ memory = rw w.in-None.is at c.self.view_is in
          let past : length memory ≤ processor_of at =
          omega (arith, ap (λ (m : List Memo). length m) none) in
          rw w.self-inside-is (c.self.view_is ∙ done_past at memory _ n past))
    ]
