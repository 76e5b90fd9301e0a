use Rattle.std.proofs.Common.{◌<◌, subst, sym}
use Rattle.std.specs.Prelude.{IfSome}
use Rattle.pram_job.specs.Job.{JobData}
use Rattle.pram_machine.specs.Turns.{request_of}
use Rattle.walk_memory.specs.OwnWrites.{cell_write}
use Rattle.walkx.proofs.Kept.{cell_below}
use Rattle.walkx.proofs.wide_store.store_by.Goals as goal

pub kept-requires : goal.kept-requires
kept-requires c =
    let job = c.args.leaf.now.job in
    let put = (request_of c.turn_by.result).put in
    rw c.store_of.ensures (subst (λ (j : JobData).
    IfSome (cell_write j put) (λ write. write.0 < job.cells))
    (sym c.job.ensures.value) (cell_below job put))
