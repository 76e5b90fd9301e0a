use Rattle.std.proofs.Common.{List, length, take}
use Rattle.pram_machine.specs.declared.requests.Request.{Request}
use Rattle.pram_step.specs.Inner.Marks.{AreAsked, AreJudged}
use Rattle.pram_step.proofs.Marking.{turn_of}
use Rattle.pram_step.proofs.stores.judge_all.Given as goal

abbrev pub invariant-loop-k : goal.invariant-loop-k
invariant-loop-k l = (requests : List Request) →
    AreAsked l.job.cells requests (length requests) l.asked (length l.asked) →
    AreJudged l.job (take (turn_of l.asked l.k (length requests)) requests) l.asked l.marks l.k
    l.found
