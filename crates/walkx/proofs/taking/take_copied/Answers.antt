use Rattle.std.proofs.Common.{◌≡◌, sym, subst}
use Rattle.walk_memory.specs.Inner.Posts.{processor_of}
use Rattle.walk_memory.specs.Memory.{FitsMemo, memo_of}
use Rattle.walkx.proofs.TakingUp.{takes_up}
use Rattle.walkx.proofs.taking.take_copied.Goals as goal

pub wide_task-done-requires-clause-memo : goal.wide_task-done-requires-clause-memo
wide_task-done-requires-clause-memo g c =
    let at = c.args.leaf.now in
    let is : c.memo-memo.result ≡ memo_of c.args.memory.now (processor_of at) =
    rw c.processor-i.ensures.value at c.memo-memo.ensures in
    subst (FitsMemo at.job) (sym is) c.requires.memo

pub wide_task-done-requires-clause-next : goal.wide_task-done-requires-clause-next
wide_task-done-requires-clause-next g c =
    let is : c.memo-memo.result ≡ memo_of c.args.memory.now (processor_of c.args.leaf.now) =
    rw c.processor-i.ensures.value at c.memo-memo.ensures in
    rw is c.requires.next

pub returns : goal.returns
returns g c =
    let at = c.args.leaf.now in
    let is : c.memo-memo.result ≡ memo_of c.args.memory.now (processor_of at) =
    rw c.processor-i.ensures.value at c.memo-memo.ensures in
    rw c.settle.ensures (takes_up (g.S.Steps.stands at) at c.args.steps.now
    c.wide_task-done.new.steps c.args.memory.now c.put.new.self c.memo-memo.result
    c.wide_task-done.new.memo c.wide_task-done.result is
    (rw c.processor-i.ensures.value at c.put.ensures) c.wide_task-done.ensures.idle
    c.wide_task-done.ensures.plays)
