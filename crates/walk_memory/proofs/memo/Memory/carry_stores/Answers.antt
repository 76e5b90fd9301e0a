use Rattle.std.proofs.Common.{◌≡◌, ◌-◌, ◌/◌, ◌<◌, ◌≤◌, ℕ, List, [], length, slice_get, Some, None}
use Rattle.std.proofs.Common.{sym, ap, ◌∙◌, arith}
use Rattle.std.proofs.lemmas.Option.{slice_get-get_or}
use Rattle.walk_memory.specs.declared.memo.Memo.{Memo}
use Rattle.walk_memory.specs.Inner.Posts.{processor_of}
use Rattle.walk_memory.specs.Lanes.{lane, memos_of}
use Rattle.walk_memory.specs.Plain.{carried_all, carried_in}
use Rattle.walk_memory.proofs.Done.{done_past, row_done}
use Rattle.walk_memory.proofs.Lanes.{length_all}
use Rattle.walk_memory.proofs.Ranks.{within_grain}
use Rattle.walk_memory.proofs.memo.Memory.carry_stores.Goals as goal
use Rattle.walk_memory.proofs.memo.Memory.carry_stores.Goals.{in-Some+then-q-len}
use Rattle.walk_memory.proofs.memo.Memory.carry_stores.Goals.{in-Some+else-q-len, in-None}

pub returns : goal.returns
returns c =
    let at = c.args.leaf.now in
    let n = c.args.end - at.rank in
    let memory = c.args.self.now in
    let lanes = c.lanes_to-lanes.result in
    let e = c.lanes_to-lanes.ensures in
    let q = lanes.first / 64 in
    elim c.match-self.branch [
      | in-Some+then-q-len w ↦ (
          let items = w.in-Some.blocks.items in
          let old = w.index_mut.result.now in
          let block = w.carry_in.new.block in
          let low : q < length items =
          omega (arith, w.in-Some.blocks.ok, w.len.ensures, w.if-q-len.true) in
          let there : slice_get items q ≡ Some old =
          slice_get-get_or items q old low ∙ ap Some (sym w.index_mut.ensures.value) in
          let view : memos_of items ≡ memory = rw w.in-Some.is at c.self.view_is in
          rw w.self-inside-is (row_done at items q lanes.start lanes.end old block low there
          (omega (arith, e.row, e.start)) lanes.within (λ memo k. carried_in at memo)
          (λ k from to. w.carry_in.ensures.there k from to
          ∙ ap (λ (phase : ℕ). record (lane old k) { acted = phase; store = None })
          w.phase.ensures.value)
          w.carry_in.ensures.before w.carry_in.ensures.after n
          (omega (arith, e.end, c.requires.from))
          ∙ ap (λ (m : List Memo). carried_all at n m) view))
      | in-Some+else-q-len w ↦ (
          let items = w.in-Some.blocks.items in
          let view : memos_of items ≡ memory = rw w.in-Some.is at c.self.view_is in
          let past : length memory ≤ processor_of at =
          omega (
            arith,
            w.in-Some.blocks.ok,
            w.len.ensures,
            w.if-q-len.false,
            length_all items,
            ap (λ (m : List Memo). length m) view,
            e.row,
          ) in
          rw w.self-inside-is (view ∙ done_past at memory _ n past))
      | in-None w ↦ (
          let none : [] ≡ memory = rw w.in-None.is at c.self.view_is in
          let past : length memory ≤ processor_of at =
          omega (arith, ap (λ (m : List Memo). length m) none) in
          rw w.self-inside-is (c.self.view_is ∙ done_past at memory _ n past))
    ]

pub lanes_to-lanes-requires-clause-within : goal.lanes_to-lanes-requires-clause-within
lanes_to-lanes-requires-clause-within c =
    let most = within_grain c.args.leaf.now c.args.len c.job.ensures.limits c.requires.ranks in
    omega (arith, most, c.requires.most)
