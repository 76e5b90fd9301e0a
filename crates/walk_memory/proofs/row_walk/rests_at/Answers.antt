use Rattle.std.proofs.Common.{◌+◌, Option, sym, ap, ◌∙◌}
use Rattle.pram_job.specs.declared.instr.Instr.{Instr}
use Rattle.walk_memory.specs.Memory.{is_load}
use Rattle.walk_memory.specs.Rows.{lane_as}
use Rattle.walk_memory.proofs.AsFar.{at_due, at_load}
use Rattle.walk_memory.proofs.row_walk.rests_at.Goals as goal

pub returns-then-is_load-clause-rest : goal.returns-then-is_load-clause-rest
returns-then-is_load-clause-rest c = λ t k from to.
    at_load c.args.job.now (c.args.lanes.first + k) (lane_as c.args.at c.args.block.now k)
    (ap (λ (o : Option Instr). is_load o) c.requires.stand.0 ∙ sym c.is_load.ensures ∙ c.if-is_load.true)

pub returns-then-is_due-clause-rest : goal.returns-then-is_due-clause-rest
returns-then-is_due-clause-rest c = λ t k from to.
    at_due c.args.job.now (c.args.lanes.first + k) (lane_as c.args.at c.args.block.now k)
    c.args.instr.now c.requires.stand.0 (sym c.is_due.ensures ∙ c.if-is_due.true)
