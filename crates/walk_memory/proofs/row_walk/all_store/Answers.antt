use Rattle.std.proofs.Common.{◌+◌, length, subst, sym, ◌∙◌}
use Rattle.pram_job.specs.declared.instr.Instr.{Instr}
use Rattle.pram_job.specs.Job.{IsInstr}
use Rattle.pram_machine.proofs.Shapes.{instr_is}
use Rattle.walk_memory.specs.Rows.{lane_as}
use Rattle.walk_memory.proofs.InLanes.{store_stays}
use Rattle.walk_memory.proofs.row_walk.all_store.Goals as goal

pub all_have-requires : goal.all_have-requires
all_have-requires c =
    let job = c.args.job.now in
    (subst (λ (x : Instr). IsInstr job.cells (length job.code) x) c.in-St.is
    (instr_is job c.args.at.counter c.args.instr.now c.limits_hold.ensures c.requires.stand.0)).0

pub returns-else-is_common : goal.returns-else-is_common
returns-else-is_common c = λ t k from to.
    let job = c.args.job.now in
    store_stays job (c.args.lanes.first + k) (lane_as c.args.at c.args.block.now k) c.args.instr.now
    c.in-St.place c.in-St.b c.requires.stand.0 c.in-St.is
    (sym c.is_common.ensures ∙ c.if-is_common.false)
    (subst (λ (x : Instr). IsInstr job.cells (length job.code) x) c.in-St.is
    (instr_is job c.args.at.counter c.args.instr.now c.limits_hold.ensures c.requires.stand.0)).0
    (c.all_have.ensures t k from to)
