use Rattle.std.proofs.Common.{subst, sym}
use Rattle.pram_step.specs.Runs.{IsReached}
use Rattle.pram_rows.proofs.Causing.{fault_known}
use Rattle.pram_rows.proofs.causes.clash_values.Goals as goal

pub returns-in-None : goal.returns-in-None
returns-in-None c = λ is.
    let never = rw c.in-None.is at c.in_ok-state.ensures in
    absurd (never (subst (IsReached c.args.job.now) (sym c.saturating_sub.ensures)
    (fault_known c.args.job.now c.args.fault is).2))
