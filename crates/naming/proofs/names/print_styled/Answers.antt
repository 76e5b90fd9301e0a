use Rattle.std.proofs.Common.{ℕ, subst}
use Rattle.naming.specs.Writing.{writing}
use Rattle.naming.specs.Puts.{PutText}
use Rattle.naming.specs.Names.{recorded}
use Rattle.naming.proofs.names.print_styled.Goals as goal

pub returns-then-csv : goal.returns-then-csv
returns-then-csv g c = rw c.if-csv.true
    (subst (λ (n : ℕ). PutText (writing g.O.Sink c.args.out.now c.print_recorded.new.out)
    (recorded c.args.spelled.now.names c.args.answer.now n) c.print_recorded.result)
    c.steps.ensures.value c.print_recorded.ensures)

pub returns : goal.returns
returns g c = rw c.if-csv.false c.print_told.ensures
