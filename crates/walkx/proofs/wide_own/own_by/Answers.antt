use Rattle.std.proofs.Common.{◌≡◌, Some, sym, ◌∙◌}
use Rattle.pram_machine.proofs.Shapes.{instr_is}
use Rattle.walk_memory.specs.Memory.{cell_named}
use Rattle.walkx.proofs.Silent.{where_reads}
use Rattle.walkx.proofs.wide_own.own_by.Goals as goal

pub cell_named-requires : goal.cell_named-requires
cell_named-requires g c =
    rw c.job.ensures.value (instr_is c.args.leaf.now.job c.args.memo.now.own.counter
    c.args.instr.now c.job.ensures.limits.board.limits c.requires.stand.1)

pub own_loaded-requires-clause-cell : goal.own_loaded-requires-clause-cell
own_loaded-requires-clause-cell g c =
    rw c.job.ensures.value at (sym c.cell_named.ensures.value ∙ c.in-Some.is)

pub own_decided-requires-clause-none : goal.own_decided-requires-clause-none
own_decided-requires-clause-none g c =
    rw c.job.ensures.value at (sym c.cell_named.ensures.value ∙ c.in-None.is)

pub returns-in-Some-clause-idle : goal.returns-in-Some-clause-idle
returns-in-Some-clause-idle g c = λ before.
    let at = c.args.leaf.now in
    let reads : cell_named at.job c.args.memo.now.own (Some c.args.instr.now)
    ≡ Some c.in-Some.cell =
    rw c.job.ensures.value at (sym c.cell_named.ensures.value ∙ c.in-Some.is) in
    where_reads at c.args.memo.now _ _ _ c.args.instr.now before c.requires.stand.1
    c.in-Some.cell reads
