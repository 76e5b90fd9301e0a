use Rattle.std.proofs.Common.{◌≡◌, ◌/◌, ◌<◌, List, length, slice_get, Some, sym, ap, subst, ◌∙◌}
use Rattle.std.proofs.Common.{arith}
use Rattle.std.proofs.lemmas.Option.{slice_get-get_or}
use Rattle.walk_memory.specs.declared.memo.Memo.{Memo}
use Rattle.walkx.specs.Driving.{IsNextPart}
use Rattle.walk_memory.specs.Lanes.{memos_of}
use Rattle.walk_memory.specs.Memory.{FitsMemo}
use Rattle.walkx.specs.Parts.{does_wide}
use Rattle.walkx.specs.Passing.{TakesUpIf}
use Rattle.walk_memory.proofs.Storing.{lane_known, lane_set}
use Rattle.walkx.proofs.taking.carry_second.Goals as goal

pub carry_known-requires-clause-memo : goal.carry_known-requires-clause-memo
carry_known-requires-clause-memo g c =
    let at = c.args.leaf.now in
    let items = c.in-Some.blocks.items in
    let i = c.processor-i.result in
    let old = c.index_mut-block.result.now in
    let view : memos_of items ≡ c.args.memory.now = rw c.in-Some.is at c.memory.view_is in
    let low : i / 64 < length items =
    omega (arith, c.in-Some.blocks.ok, c.len.ensures, c.if-i-len.true) in
    let there : slice_get items (i / 64) ≡ Some old =
    slice_get-get_or items (i / 64) old low ∙ ap Some (sym c.index_mut-block.ensures.value) in
    subst (FitsMemo at.job)
    (lane_known c.args.memory.now items i _ old view c.processor-i.ensures.value there)
    c.requires.memo

pub carry_known-requires-clause-next : goal.carry_known-requires-clause-next
carry_known-requires-clause-next g c =
    let at = c.args.leaf.now in
    let items = c.in-Some.blocks.items in
    let i = c.processor-i.result in
    let old = c.index_mut-block.result.now in
    let view : memos_of items ≡ c.args.memory.now = rw c.in-Some.is at c.memory.view_is in
    let low : i / 64 < length items =
    omega (arith, c.in-Some.blocks.ok, c.len.ensures, c.if-i-len.true) in
    let there : slice_get items (i / 64) ≡ Some old =
    slice_get-get_or items (i / 64) old low ∙ ap Some (sym c.index_mut-block.ensures.value) in
    subst (λ (m : Memo). IsNextPart (g.S.Steps.stands at) c.args.steps.now (does_wide at m))
    (lane_known c.args.memory.now items i _ old view c.processor-i.ensures.value there)
    c.requires.next

pub returns-then-i-len : goal.returns-then-i-len
returns-then-i-len g c =
    let at = c.args.leaf.now in
    let items = c.in-Some.blocks.items in
    let i = c.processor-i.result in
    let old = c.index_mut-block.result.now in
    let memory = c.args.memory.now in
    let view : memos_of items ≡ memory = rw c.in-Some.is at c.memory.view_is in
    let low : i / 64 < length items =
    omega (arith, c.in-Some.blocks.ok, c.len.ensures, c.if-i-len.true) in
    let there : slice_get items (i / 64) ≡ Some old =
    slice_get-get_or items (i / 64) old low ∙ ap Some (sym c.index_mut-block.ensures.value) in
    let known = lane_known memory items i _ old view c.processor-i.ensures.value there in
    let kept = lane_set memory items i _ old view c.processor-i.ensures.value there
    c.carry_known.new.block low c.carry_known.ensures.others in
    subst (λ (now : List Memo). TakesUpIf (g.S.Steps.stands at) at c.args.steps.now memory
    c.carry_known.new.steps now c.carry_known.result) (sym kept)
    (c.carry_known.ensures.takes memory known)
