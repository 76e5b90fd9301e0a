use Rattle.std.proofs.Common.{◌≡◌, ◌+◌, ◌-◌, ◌*◌, ◌/◌, ◌<◌, ◌≤◌, List, [], length, slice_get}
use Rattle.std.proofs.Common.{slice_index, Some, sym, ap, subst, ◌∙◌, arith}
use Rattle.std.proofs.lemmas.Option.{slice_get-get_or}
use Rattle.walk_memory.specs.declared.memo.Memo.{Memo}
use Rattle.walk_memory.specs.Inner.Posts.{processor_of}
use Rattle.walk_memory.specs.Lanes.{lane, memos_of}
use Rattle.walk_memory.specs.Memory.{memo_of}
use Rattle.walk_memory.specs.Plain.{claimed, claimed_all}
use Rattle.walk_memory.proofs.Done.{after, done_past, lane_there, row_done}
use Rattle.walk_memory.proofs.Lanes.{length_all}
use Rattle.walk_memory.proofs.PlainClaims.{claim_counter}
use Rattle.walk_memory.proofs.memo.Memory.take_claims.Goals as goal
use Rattle.walk_memory.proofs.memo.Memory.take_claims.Goals.{in-Some+then-q-len, in-Some+else-q-len}
use Rattle.walk_memory.proofs.memo.Memory.take_claims.Goals.{in-None}

pub claim_in-requires : goal.claim_in-requires
claim_in-requires c = λ k from to.
    let at = c.args.leaf.now in
    let memory = c.args.self.now in
    let lanes = c.lanes_to-lanes.result in
    let on = c.lanes_to-lanes.ensures in
    let q = lanes.first / 64 in
    let items = c.in-Some.blocks.items in
    let old = c.index_mut.result.now in
    let low : q < length items =
    omega (arith, c.in-Some.blocks.ok, c.len.ensures, c.if-q-len.true) in
    let there : slice_get items q ≡ Some old =
    slice_get-get_or items q old low ∙ ap Some (sym c.index_mut.ensures.value) in
    let view : memos_of items ≡ memory = rw c.in-Some.is at c.self.view_is in
    let first : 64 * q + lanes.start ≡ processor_of at = omega (arith, on.row, on.start) in
    let within : k < 64 = omega (arith, to, lanes.within) in
    let is = subst (λ (m : List Memo). memo_of m (after at (k - lanes.start)) ≡ lane old k) view
    (lane_there at items q lanes.start old low there first k from within) in
    let counts = claim_counter at c.args.end memory c.args.claims.now c.requires.plain lanes.start
    lanes.end k on.end from to (lane old k) is in
    let most : length at.job.code ≤ 4096 =
    rw c.job.ensures.value at c.limits_hold.ensures.code_len.1 in
    omega (arith, counts, most)

pub returns : goal.returns
returns c =
    let at = c.args.leaf.now in
    let memory = c.args.self.now in
    let claims = c.args.claims.now in
    let lanes = c.lanes_to-lanes.result in
    let on = c.lanes_to-lanes.ensures in
    let q = lanes.first / 64 in
    let n = c.args.end - at.rank in
    elim c.match-self.branch [
      | in-Some+then-q-len w ↦ (
          let items = w.in-Some.blocks.items in
          let old = w.index_mut.result.now in
          let low : q < length items =
          omega (arith, w.in-Some.blocks.ok, w.len.ensures, w.if-q-len.true) in
          let there : slice_get items q ≡ Some old =
          slice_get-get_or items q old low ∙ ap Some (sym w.index_mut.ensures.value) in
          let view : memos_of items ≡ memory = rw w.in-Some.is at c.self.view_is in
          let first : 64 * q + lanes.start ≡ processor_of at = omega (arith, on.row, on.start) in
          let all : lanes.start + n ≡ lanes.end = omega (arith, on.end, c.requires.later) in
          rw w.self-inside-is (row_done at items q lanes.start lanes.end old w.claim_in.new.block
          low there first lanes.within (λ memo k. claimed at memo (slice_index claims.cells k)
          claims.operand)
          w.claim_in.ensures.there w.claim_in.ensures.before w.claim_in.ensures.after n all
          ∙ ap (λ (m : List Memo). claimed_all at n claims m) view))
      | in-Some+else-q-len w ↦ (
          let items = w.in-Some.blocks.items in
          let view : memos_of items ≡ memory = rw w.in-Some.is at c.self.view_is in
          let past : length memory ≤ processor_of at =
          omega (
            arith,
            w.in-Some.blocks.ok,
            w.len.ensures,
            w.if-q-len.false,
            length_all items,
            ap (λ (m : List Memo). length m) view,
            on.row,
          ) in
          rw w.self-inside-is (view ∙ done_past at memory _ n past))
      | in-None w ↦ (
          let none : [] ≡ memory = rw w.in-None.is at c.self.view_is in
          let past : length memory ≤ processor_of at =
          omega (arith, ap (λ (m : List Memo). length m) none) in
          rw w.self-inside-is (c.self.view_is ∙ done_past at memory _ n past))
    ]
