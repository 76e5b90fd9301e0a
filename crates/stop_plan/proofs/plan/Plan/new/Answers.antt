use Rattle.std.proofs.Common.{inl, inr}
use Rattle.std.proofs.lemmas.Result.{err_from_is_err_and}
use Rattle.stop_plan.proofs.RowFaults.{all_judged, first_bad, one_more}
use Rattle.stop_plan.proofs.plan.Plan.new.Goals as goal

pub returns-in_err-draft-clause-fault : goal.returns-in_err-draft-clause-fault
returns-in_err-draft-clause-fault c =
    let p = err_from_is_err_and c.from_residual.result c.from_residual.ensures.1 in
    rw (p.1, p.2) (elim c.in_err-draft.ensures.fault [
      | inl none ↦ inl none
      | inr bad ↦
          inr (rw bad.0 (first_bad _ _ _ _ _ _ _ c.loop-row-test.true c.loop-row.invariant bad.1))
    ])

pub loop-row-preserved : goal.loop-row-preserved
loop-row-preserved c =
    one_more _ _ _ _ _ _ _ c.loop-row-test.true c.loop-row.invariant c.in_ok-draft.ensures.taken

pub returns-clause-plan : goal.returns-clause-plan
returns-clause-plan c =
    rw c.into_plan.ensures (all_judged _ _ _ _ _ c.loop-row-test.false c.loop-row.invariant)
