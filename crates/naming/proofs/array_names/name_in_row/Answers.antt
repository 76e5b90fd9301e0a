use Rattle.std.proofs.Common.{◌∙◌, arith, sym}
use Rattle.naming.proofs.ArrayNames.{between_rows, in_row}
use Rattle.naming.proofs.array_names.name_in_row.Goals as goal

pub returns-then-after-len-ne0 : goal.returns-then-after-len-ne0
returns-then-after-len-ne0 c =
    sym (between_rows c.args.program.now c.args.array (λ e. omega arith) c.args.after
    c.requires.at c.requires.len (λ e. omega arith))

pub returns : goal.returns
returns c =
    c.name_of_row.ensures
    ∙ sym (in_row c.args.program.now c.args.array (λ e. omega arith) c.args.after c.requires.at
    c.requires.len (omega arith))
