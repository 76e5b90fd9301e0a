use Rattle.std.proofs.Common.{◌≡◌, ◌/◌, ◌<◌, Some, Err, length, slice_get, true, rules, sym, ap}
use Rattle.std.proofs.Common.{subst, ◌∙◌, arith}
use Rattle.std.specs.Prelude.{slice_set}
use Rattle.std.proofs.lemmas.Option.{slice_get-get_or}
use Rattle.walk_memory.specs.declared.memo.Memo.{Memo}
use Rattle.walkx.specs.Driving.{IsNextPart}
use Rattle.walk_memory.specs.Lanes.{memos_of}
use Rattle.walk_memory.specs.Inner.Posts.{processor_of}
use Rattle.walk_memory.specs.Memory.{is_past, memo_of}
use Rattle.walkx.specs.Parts.{does_wide}
use Rattle.walkx.specs.Passing.{TakesUp}
use Rattle.walkx.proofs.Placed.{first_past, lane_is, takes_in_lane}
use Rattle.walkx.proofs.taking.take_first.Goals as goal

pub returns-then-is_past : goal.returns-then-is_past
returns-then-is_past g c =
    let at = c.args.leaf.now in
    let items = c.in-Some.blocks.items in
    let i = c.processor-i.result in
    let view : memos_of items ≡ c.args.memory.now = rw c.in-Some.is at c.memory.view_is in
    let low : i / 64 < length items =
    omega (arith, c.in-Some.blocks.ok, c.len.ensures, c.if-i-len.true) in
    let there : slice_get items (i / 64) ≡ Some c.index.result.now =
    slice_get-get_or items (i / 64) c.index.result.now low ∙ ap Some (sym c.index.ensures) in
    let is : c.memo.result ≡ memo_of c.args.memory.now (processor_of at) =
    c.memo.ensures ∙ sym (lane_is items c.args.memory.now at i c.index.result.now view
    c.processor-i.ensures.value there) in
    let past : is_past at.phase c.memo.result ≡ true =
    rw c.phase.ensures.value at (sym c.is_past.ensures ∙ c.if-is_past.true) in
    rw view (first_past (g.S.Steps.stands at) at c.args.steps.now c.args.memory.now
    c.memo.result is c.requires.first past)

pub own_in-done-requires-clause-next : goal.own_in-done-requires-clause-next
own_in-done-requires-clause-next g c =
    let at = c.args.leaf.now in
    let items = c.in-Some.blocks.items in
    let i = c.processor-i.result in
    let block = c.index_mut.result.now in
    let view : memos_of items ≡ c.args.memory.now = rw c.in-Some.is at c.memory.view_is in
    let low : i / 64 < length items =
    omega (arith, c.in-Some.blocks.ok, c.len.ensures, c.if-i-len.true) in
    let there : slice_get items (i / 64) ≡ Some block =
    slice_get-get_or items (i / 64) block low ∙ ap Some (sym c.index_mut.ensures.value) in
    subst (λ (m : Memo). IsNextPart (g.S.Steps.stands at) c.args.steps.now (does_wide at m))
    (lane_is items c.args.memory.now at i block view c.processor-i.ensures.value there)
    c.requires.next

pub returns-in_err-settle-in-Some : goal.returns-in_err-settle-in-Some
returns-in_err-settle-in-Some g c =
    let at = c.args.leaf.now in
    let items = c.in-Some.blocks.items in
    let i = c.processor-i.result in
    let block = c.index_mut.result.now in
    let view : memos_of items ≡ c.args.memory.now = rw c.in-Some.is at c.memory.view_is in
    let low : i / 64 < length items =
    omega (arith, c.in-Some.blocks.ok, c.len.ensures, c.if-i-len.true) in
    let there : slice_get items (i / 64) ≡ Some block =
    slice_get-get_or items (i / 64) block low ∙ ap Some (sym c.index_mut.ensures.value) in
    let now = memos_of (slice_set items (i / 64) c.own_in-done.new.block) in
    let takes = takes_in_lane items c.args.memory.now at i block view
    c.processor-i.ensures.value there
    (g.S.Steps.stands at) c.args.steps.now c.own_in-done.new.steps c.own_in-done.new.block
    c.own_in-done.result low c.own_in-done.ensures.idle c.own_in-done.ensures.done in
    let why = c.in_err-settle-in-Some.field-0.0 in
    let e : c.from_residual.result ≡ Err why = search rules in
    rw e (subst (TakesUp (g.S.Steps.stands at) at c.args.steps.now c.args.memory.now
    c.own_in-done.new.steps now) (sym c.settle.ensures ∙ c.in_err-settle-in-Some.was) takes)

pub returns-in-Some-known_in : goal.returns-in-Some-known_in
returns-in-Some-known_in g c =
    let at = c.args.leaf.now in
    let items = c.in-Some.blocks.items in
    let i = c.processor-i.result in
    let block = c.index_mut.result.now in
    let view : memos_of items ≡ c.args.memory.now = rw c.in-Some.is at c.memory.view_is in
    let low : i / 64 < length items =
    omega (arith, c.in-Some.blocks.ok, c.len.ensures, c.if-i-len.true) in
    let there : slice_get items (i / 64) ≡ Some block =
    slice_get-get_or items (i / 64) block low ∙ ap Some (sym c.index_mut.ensures.value) in
    let now = memos_of (slice_set items (i / 64) c.own_in-done.new.block) in
    let takes = takes_in_lane items c.args.memory.now at i block view
    c.processor-i.ensures.value there
    (g.S.Steps.stands at) c.args.steps.now c.own_in-done.new.steps c.own_in-done.new.block
    c.own_in-done.result low c.own_in-done.ensures.idle c.own_in-done.ensures.done in
    subst (TakesUp (g.S.Steps.stands at) at c.args.steps.now c.args.memory.now
    c.own_in-done.new.steps now) (sym c.settle.ensures ∙ c.in_ok-settle-in-Some.was) takes
