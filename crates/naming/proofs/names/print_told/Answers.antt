use Rattle.std.proofs.Common.{ℕ, subst}
use Rattle.naming.specs.Writing.{writing}
use Rattle.naming.specs.Puts.{PutText}
use Rattle.naming.specs.Names.{printed_answer}
use Rattle.naming.proofs.names.print_told.Goals as goal

pub returns : goal.returns
returns g c =
    subst (λ (n : ℕ). PutText (writing g.O.Sink c.args.out.now c.print_by.new.out)
    (printed_answer c.args.spelled.now.names c.args.answer.now n) c.print_by.result)
    c.steps.ensures.value
    c.print_by.ensures
