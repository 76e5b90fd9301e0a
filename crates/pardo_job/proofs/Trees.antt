-- Expressions of a program name what there is in its cells.
use Rattle.std.proofs.Common.{◌<◌, sym, subst}
use Rattle.std.proofs.lemmas.List.{length-map}
use Rattle.pardo_program.specs.Expression.{Tree, number, own, loop, private, place, apply}
use Rattle.pardo_program.specs.Lawful.{IsExpression, bounds_of}
use Rattle.pardo_program.specs.Program.{ProgramData}
use Rattle.pardo_flat.specs.Layouts.{cells_of_array, program_layout}
use Rattle.pardo_job.specs.Lawful.{IsLawfulTree}

pub lawful_tree : (program : ProgramData) (tree : Tree) → IsExpression (bounds_of program) tree →
    IsLawfulTree (program_layout program) tree
unfolding program_layout
lawful_tree program (number k) is = is
lawful_tree program own is = tt
lawful_tree program (loop nest) is = is
lawful_tree program (private x) is = is
lawful_tree program (place array index) is = (
  subst (λ n. array < n) (sym (length-map program.arrays cells_of_array)) is.0,
  lawful_tree program index is.1,
)
lawful_tree program (apply op first second) is =
    (lawful_tree program first is.0, lawful_tree program second is.1)
