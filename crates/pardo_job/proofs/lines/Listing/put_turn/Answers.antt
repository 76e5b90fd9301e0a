use Rattle.std.proofs.Common.{arith, subst}
use Rattle.pardo_program.specs.declared.statement.Statement.{Statement}
use Rattle.pardo_program.specs.Lawful.{IsStatement, bounds_of}
use Rattle.pardo_job.proofs.LineFits.{loops_in, tree_in}
use Rattle.pardo_job.proofs.lines.Listing.put_turn.Goals as goal

pub put_value-requires-clause-lawful : goal.put_value-requires-clause-lawful
put_value-requires-clause-lawful c =
    let is = subst (λ (s : Statement). IsStatement (bounds_of c.args.self.now.program.now) s)
    c.in-For.is c.requires in
    tree_in c.args.self.now.program.now c.args.self.now.layout c.in-For.last
    c.args.self.now.laid_out is.2.0

pub loop_variable-variable-requires : goal.loop_variable-variable-requires
loop_variable-variable-requires c =
    let is = subst (λ (s : Statement). IsStatement (bounds_of c.args.self.now.program.now) s)
    c.in-For.is c.requires in
    omega (
      arith,
      is.0,
      loops_in c.args.self.now.program.now c.args.self.now.layout
          c.args.self.now.laid_out,
    )
