use Rattle.std.proofs.Common.{◌≡◌, ◌+◌, ◌*◌, ◌/◌, ◌%◌, ◌≤◌, ℕ, length, Option, slice_index}
use Rattle.std.proofs.Common.{sym, ap, subst, arith}
use Rattle.std.proofs.lemmas.Option.{slice_get_past}
use Rattle.std.specs.Prelude.{unwrap_or}
use Rattle.walk_memory.specs.declared.memo.Memo.{Memo}
use Rattle.walk_memory.specs.Inner.Posts.{processor_of}
use Rattle.walk_memory.specs.Lanes.{lane}
use Rattle.walk_memory.specs.Memory.{at_start, memo_of}
use Rattle.walk_memory.specs.Stands.{LoadsKnown}
use Rattle.walk_memory.proofs.PlainClaims.{none_there}
use Rattle.walkx.specs.Driving.{IsNextPart}
use Rattle.walkx.specs.Parts.{does_wide}
use Rattle.walkx.proofs.taking.take_lagging.Goals as goal

pub load_lagging-requires-clause-loads : goal.load_lagging-requires-clause-loads
load_lagging-requires-clause-loads g c =
    let at = c.args.leaf.now in
    let memory = c.args.memory.now in
    let i = c.processor-i.result in
    let block = c.in-Some.block.now in
    let here : 64 * (i / 64) + i % 64 ≡ processor_of at =
    omega (arith, c.processor-i.ensures.value) in
    let is = subst (λ (j : ℕ). memo_of memory j ≡ lane block (i % 64)) here
    (ap (λ (o : Option Memo). unwrap_or o at_start)
    (c.in-Some.ensures.some (i % 64) (omega arith))) in
    let loads = c.args.loads.now in
    subst (λ (m : Memo). LoadsKnown at m loads.register (slice_index loads.cells (i % 64))) is
    (subst (λ (j : ℕ). LoadsKnown at (memo_of memory (processor_of at)) loads.register
    (slice_index loads.cells (j % 64))) (sym c.processor-i.ensures.value) c.requires.known.known)

pub load_lagging-requires-clause-next : goal.load_lagging-requires-clause-next
load_lagging-requires-clause-next g c =
    let at = c.args.leaf.now in
    let memory = c.args.memory.now in
    let i = c.processor-i.result in
    let block = c.in-Some.block.now in
    let here : 64 * (i / 64) + i % 64 ≡ processor_of at =
    omega (arith, c.processor-i.ensures.value) in
    let is = subst (λ (j : ℕ). memo_of memory j ≡ lane block (i % 64)) here
    (ap (λ (o : Option Memo). unwrap_or o at_start)
    (c.in-Some.ensures.some (i % 64) (omega arith))) in
    subst (λ (m : Memo). IsNextPart (g.S.Steps.stands at) c.args.steps.now (does_wide at m)) is
    c.requires.next

pub unreachable-requires : goal.unreachable-requires
unreachable-requires g c =
    let memory = c.args.memory.now in
    let at = c.args.leaf.now in
    let i = c.processor-i.result in
    let past : length memory ≤ processor_of at =
    omega (arith, c.in-None.ensures.none, c.processor-i.ensures.value) in
    none_there _ (slice_get_past memory (processor_of at) past) c.requires.known.there
