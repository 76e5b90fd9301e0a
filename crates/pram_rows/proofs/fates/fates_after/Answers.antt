use Rattle.std.proofs.Common.{◌-◌, ◌≤◌, arith, refl, sym, subst}
use Rattle.pram_rows.specs.Fates.{IsFirstLostOrNone}
use Rattle.pram_rows.proofs.Ending.{fates_disputed}
use Rattle.pram_rows.proofs.Losing.{lost_if_before}
use Rattle.pram_rows.proofs.fates.fates_after.Goals as goal

-- at a conflict, with who was lost before its step
pub returns : goal.returns
returns c =
    let job = c.args.job.now in
    let fault = c.in-Some.fault in
    let found = rw c.in-Some.is at c.in_ok-walk_in.ensures.walked in
    let some : 1 ≤ fault.step = (let step = found.0.step in omega arith) in
    fates_disputed job c.args.steps (fault.step - 1) fault c.if_before.result found.0 found.1 refl
    (subst (IsFirstLostOrNone job (fault.step - 1)) (sym c.if_before.ensures)
    (lost_if_before job (fault.step - 1) fault.step (omega arith) c.first_lost-in-Some.result
    c.first_lost-in-Some.ensures))
