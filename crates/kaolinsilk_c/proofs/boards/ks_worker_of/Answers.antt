use Rattle.std.proofs.Common.{subst}
use Rattle.library_boards.specs.declared.member.Member.{Member}
use Rattle.library_boards.specs.Calls.{IsNoWorkerStatus}
use Rattle.library_boards.specs.Members.{IsWorkerAt, shared_at}
use Rattle.kaolinsilk_c.proofs.Passing.{made, no_worker}
use Rattle.kaolinsilk_c.proofs.boards.ks_worker_of.Goals as goal

pub returns-in-Ok-clause-made : goal.returns-in-Ok-clause-made
returns-in-Ok-clause-made c = λ _.
    let number = c.args.number in
    let worker = c.in-Ok.made.value in
    made _ _ (λ shared. IsWorkerAt shared number) c.take-member.result.value worker
    c.take-member.ensures.member c.of-in-Ok.ensures
    (subst (λ (m : Member). IsWorkerAt (shared_at m) number worker)
    c.deref.ensures c.in-Ok.ensures.made)

pub returns-in-Err-clause-undone : goal.returns-in-Err-clause-undone
returns-in-Err-clause-undone c = λ _.
    let status = c.in-Err.status in
    no_worker _ c.args.number status c.take-member.result.value c.take-member.ensures.member
    (subst (λ (m : Member). IsNoWorkerStatus (shared_at m).workers c.args.number status)
    c.deref.ensures c.in-Err.ensures.status)
