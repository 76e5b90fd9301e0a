use Rattle.std.proofs.Common.{◌≡◌, arith}
use Rattle.pram_job.specs.Instructions.{row_of}
use Rattle.pram_job.specs.declared.instr.Operands.TheVariants.{TargetTwo}
use Rattle.pram_machine.specs.Instructions.{registers_in}
use Rattle.pram_machine.proofs.Computing.{computed_turn}
use Rattle.pram_machine.proofs.instructions.decide.Goals as goal

pub returns-in-Add : goal.returns-in-Add
returns-in-Add g c =
    let two : (row_of c.args.instr.now).1 ≡ TargetTwo c.in-Add.r c.in-Add.a c.in-Add.b =
    grind (arith, c.in-Add.is) in
    computed_turn c.args.job.now c.args.processor c.args.counter _
    (g.H.Held.operand c.args.held.now) c.in-Add.r c.in-Add.a c.in-Add.b c.args.instr.now
    c.first-in-Add.result c.second.result c.computed-value.result c.gives_or_leaves.result two
    (c.first-in-Add.ensures (registers_in c.in-Add.b)) (c.second.ensures c.in-Add.a)
    c.computed-value.ensures c.gives_or_leaves.ensures
