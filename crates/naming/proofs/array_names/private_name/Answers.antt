use Rattle.std.proofs.Common.{ap, arith, sym}
use Rattle.pardo_program.specs.Program.{shared_cells}
use Rattle.naming.proofs.ArrayNames.{before_rows, no_place, other_row}
use Rattle.naming.proofs.array_names.private_name.Goals as goal
use Rattle.naming.proofs.array_names.private_name.Goals.{then-len-eq0-via-then-len-eq0, then-len-eq0-via-else-len-eq0+then-len-procs}

pub returns-then-len-eq0 : goal.returns-then-len-eq0
returns-then-len-eq0 c = elim c.then-len-eq0.branch [
  | then-len-eq0-via-then-len-eq0 w ↦
      sym (no_place c.args.program.now c.args.array (omega arith))
  | then-len-eq0-via-else-len-eq0+then-len-procs w ↦
      sym (other_row c.args.program.now c.args.array (λ e. omega arith) (λ e. omega arith))
]

pub returns-in-None : goal.returns-in-None
returns-in-None c =
    sym (before_rows c.args.program.now c.args.array (λ e. omega arith)
    (omega (arith, c.in-None.ensures, ap shared_cells c.arrays.ensures)))
