use Rattle.std.proofs.Common.{arith}
use Rattle.pram_rows.proofs.Causing.{fault_known}
use Rattle.pram_rows.proofs.causes.values_in.Goals as goal
use Rattle.pram_rows.proofs.causes.values_in.Goals.{then-fault-procs-via-then-fault-procs}
use Rattle.pram_rows.proofs.causes.values_in.Goals.{then-fault-procs-via-else-fault-procs+then-fault-procs-2}

pub returns-then-fault-procs : goal.returns-then-fault-procs
returns-then-fault-procs c = λ is.
    let known = fault_known c.args.job.now c.args.fault is in
    let low = known.0 in
    let low_too = known.1 in
    let no : ⊥ = elim c.then-fault-procs.branch [
      | then-fault-procs-via-then-fault-procs w ↦
          let past = w.if-fault-procs.true in
          let procs = c.procs.ensures.value in omega (arith, past, procs, low)
      | then-fault-procs-via-else-fault-procs+then-fault-procs-2 w ↦
          let past = w.if-fault-procs-2.true in
          let procs = w.procs-else-fault-procs.ensures.value in omega (arith, past, procs, low_too)
    ] in
    absurd no
