use Rattle.std.proofs.Common.{◌<◌, length, sym, arith}
use Rattle.pram_step.proofs.Marking.{judged_none, judged_at, judged_next, judged_all}
use Rattle.pram_step.proofs.Marking.{IsVerdict_priority}
use Rattle.pram_step.proofs.stores.judge_all.Goals as goal

pub returns-in-Priority : goal.returns-in-Priority
returns-in-Priority c = λ requests are.
    IsVerdict_priority c.args.job.now requests (sym c.in-Priority.ensures.value)

pub loop-k-init : goal.loop-k-init
loop-k-init c = λ requests are.
    judged_none c.args.job.now requests c.args.asked.now are c.args.marks.now

pub loop-k-preserved : goal.loop-k-preserved
loop-k-preserved c = λ requests are.
    let k = c.loop-k.k in
    let inside : k < length c.args.asked.now = omega arith in
    judged_next c.args.job.now requests c.args.asked.now are k inside
    c.judge-found.new.marks c.judge-found.result
    (c.judge-found.ensures requests (are.puts k inside)
    (judged_at c.args.job.now requests c.args.asked.now are k inside c.loop-k.marks c.loop-k.found
    (c.loop-k.invariant requests are)))

pub returns : goal.returns
returns c = λ requests are.
    judged_all c.args.job.now requests c.args.asked.now are c.loop-k.k (omega arith)
    c.loop-k.marks c.loop-k.found (c.loop-k.invariant requests are)
