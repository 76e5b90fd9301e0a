use Rattle.pram_job.specs.declared.instr.Instr.TheVariants.{Ld}
use Rattle.walk_memory.specs.Lanes.{lane}
use Rattle.walkx.proofs.Silent.{where_reads}
use Rattle.walkx.proofs.TakingUp.{own_idle}
use Rattle.walkx.proofs.own_in.own_in.Goals as goal

pub returns-in-Some-clause-idle : goal.returns-in-Some-clause-idle
returns-in-Some-clause-idle g c =
    let at = c.args.leaf.now in
    let memo = lane c.args.block.now c.args.k in
    let p = c.in-Some.ensures.1 in
    let instr = Ld c.in-Some.load.register p.place in
    let s = p.stands in
    own_idle at memo instr s.first s.before s.code _ _ _
    (where_reads at memo _ _ _ instr s.before s.code c.in-Some.load.cell p.reads)
